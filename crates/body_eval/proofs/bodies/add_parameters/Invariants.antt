use Rattle.std.proofs.Common.{◌≡◌, ◌++◌}
use Rattle.body_means.specs.Bodies.{parameters}
use Rattle.body_eval.proofs.bodies.add_parameters.Given as goal

abbrev pub invariant-loop-left : goal.invariant-loop-left
invariant-loop-left l = l.locals ++ parameters l.left ≡ l.initial.locals ++ parameters l.count

abbrev pub decreases-loop-left : goal.decreases-loop-left
decreases-loop-left l = l.left
