use Rattle.core_means.specs.Means.{inner}
use Rattle.eval_forms.proofs.Turns.{next_turn}
use Rattle.eval_forms.proofs.loops.turns.Goals as goal

pub loop-left-preserved : goal.loop-left-preserved
loop-left-preserved g c =
    next_turn (inner c.args.inner.now.setting.now.program.now c.args.room) _ _ _ _ _ _ _ _ _ _
    c.loop-left-test.true c.in_ok-ended.ensures.does c.in-None.is c.loop-left.invariant
