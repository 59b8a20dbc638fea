use Rattle.std.proofs.Common.{arith}
use Rattle.body_eval.proofs.Locals.{parameters_turn, parameters_end}
use Rattle.body_eval.proofs.bodies.add_parameters.Goals as goal

pub loop-left-preserved : goal.loop-left-preserved
loop-left-preserved c = parameters_turn _ _ c.loop-left.left _ (omega arith) c.in_ok-push.ensures.ok c.loop-left.invariant

pub returns : goal.returns
returns c = parameters_end _ c.loop-left.left _ (omega arith) c.loop-left.invariant
