use Rattle.std.proofs.Common.{◌≡◌, take}
use Rattle.type_table.specs.Along.{first_places}
use Rattle.type_table.proofs.heads.word_places.Given as goal

abbrev pub invariant-loop-at : goal.invariant-loop-at
invariant-loop-at l = l.places ≡ first_places (take l.at l.words)
