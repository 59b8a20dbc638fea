use Rattle.std.proofs.Common.{◌≡◌, ◌++◌}
use Rattle.core_means.specs.Public.{absent}
use Rattle.body_eval.proofs.bodies.absent.Given as goal

abbrev pub invariant-loop-left : goal.invariant-loop-left
invariant-loop-left l = l.locals ++ absent l.left ≡ absent l.count

abbrev pub decreases-loop-left : goal.decreases-loop-left
decreases-loop-left l = l.left
