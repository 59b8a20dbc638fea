use Rattle.core_means.specs.Means.{inner}
use Rattle.eval_terms.proofs.Steps.{hops_turn}
use Rattle.eval_terms.proofs.changes.hops.Goals as goal

pub loop-rest-preserved : goal.loop-rest-preserved
loop-rest-preserved g c =
    hops_turn (inner c.args.inner.now.setting.now.program.now c.args.room) _ _ _ _ _ _ _ _ _ _ _
    c.in-len1-up.len_at_least c.first-item.is c.in_ok-next.ensures.does c.in_ok-push.ensures.ok c.loop-rest.invariant
