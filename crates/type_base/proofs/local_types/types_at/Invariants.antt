use Rattle.std.proofs.Common.{◌≡◌, ◌++◌, drop}
use Rattle.type_base.specs.LocalTypes.{types_at}
use Rattle.type_base.proofs.local_types.types_at.Given as goal

abbrev pub invariant-loop-at : goal.invariant-loop-at
invariant-loop-at l = l.types ++ types_at l.locals (drop l.at-index l.places) ≡ types_at l.locals l.places
