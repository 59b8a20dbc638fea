use Rattle.core_means.specs.Means.{inner}
use Rattle.eval_terms.proofs.Steps.{values_turn}
use Rattle.eval_terms.proofs.terms.values.Goals as goal

pub loop-terms-preserved : goal.loop-terms-preserved
loop-terms-preserved g c =
    values_turn (inner c.args.inner.now.setting.now.program.now c.args.room) _ _ _ _ _ _ _ _ _ _ _
    c.in-len1-up.len_at_least c.term-item.is c.in_ok-value.ensures.does c.in_ok-push.ensures.ok c.loop-terms.invariant
