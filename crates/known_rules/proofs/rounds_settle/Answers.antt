use Rattle.known_rules.specs.Known.{opens}
use Rattle.known_rules.proofs.Settles.{settles}
use Rattle.known_rules.proofs.rounds_settle.Goals as goal

pub returns : goal.returns
returns c = record { settled = λ source table. settles (opens source) table }
