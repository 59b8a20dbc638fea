use Rattle.std.proofs.Common.{◌≡◌, ◌++◌, map, drop}
use Rattle.type_base.specs.LocalTypes.{local_type}
use Rattle.type_base.proofs.local_types.types_from.Given as goal

abbrev pub invariant-loop-at : goal.invariant-loop-at
invariant-loop-at l = l.types ++ map local_type (drop l.at l.locals) ≡ map local_type (drop l.first l.locals)
