use Rattle.core_means.specs.Means.{inner}
use Rattle.eval_terms.proofs.Steps.{block_turn}
use Rattle.eval_terms.proofs.calls.block.Goals as goal

pub loop-rest-preserved : goal.loop-rest-preserved
loop-rest-preserved g c =
    block_turn (inner c.args.inner.now.setting.now.program.now c.args.room) _ _ _ _ _ _ _ _ _
    c.in-len1-up.len_at_least c.statement-item.is c.in_ok-flow.ensures.does c.in-Next.is c.loop-rest.invariant
