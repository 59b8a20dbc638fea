use Rattle.std.proofs.Common.{◌≡◌}
use Rattle.type_base.specs.Depth.{optional}
use Rattle.type_base.proofs.depths.optional.Given as goal

abbrev pub invariant-loop-done : goal.invariant-loop-done
invariant-loop-done l = l.whole ≡ optional l.done l.fn.ty
