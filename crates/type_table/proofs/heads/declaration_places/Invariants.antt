use Rattle.std.proofs.Common.{◌≡◌, take, map}
use Rattle.type_table.specs.Along.{first_places}
use Rattle.type_table.specs.Heads.{declaration_name}
use Rattle.type_table.proofs.heads.declaration_places.Given as goal

abbrev pub invariant-loop-at : goal.invariant-loop-at
invariant-loop-at l = l.places ≡ first_places (map declaration_name (take l.at l.declarations))
