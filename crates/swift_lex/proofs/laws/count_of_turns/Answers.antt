use Rattle.swift_lex.proofs.ItemLaws.{count_enough}
use Rattle.swift_lex.proofs.laws.count_of_turns.Goals as goal

pub returns : goal.returns
returns c = record { enough = count_enough }
