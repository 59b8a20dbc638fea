use Rattle.core_means.specs.Means.{inner}
use Rattle.eval_forms.proofs.Turns.{next_item}
use Rattle.eval_forms.proofs.loops.for_each.Goals as goal

pub loop-rest-preserved : goal.loop-rest-preserved
loop-rest-preserved g c =
    next_item (inner c.args.inner.now.setting.now.program.now c.args.room) _ _ _ _ _ _ _ _ _ _ _
    c.in-len1-up.len_at_least c.item-item.is c.in_ok-copy.ensures c.in_ok-ended.ensures.does c.in-None.is c.loop-rest.invariant
