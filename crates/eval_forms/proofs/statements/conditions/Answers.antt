use Rattle.core_means.specs.Means.{inner}
use Rattle.eval_forms.proofs.Turns.{next_condition}
use Rattle.eval_forms.proofs.statements.conditions.Goals as goal

pub loop-rest-preserved : goal.loop-rest-preserved
loop-rest-preserved g c =
    next_condition (inner c.args.inner.now.setting.now.program.now c.args.room) _ _ _ _ _ _ _ _ _
    c.in-len1-up.len_at_least c.first-item.is c.in_ok-holds.ensures.does c.if-holds.true c.loop-rest.invariant
