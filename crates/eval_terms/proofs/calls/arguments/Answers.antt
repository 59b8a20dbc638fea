use Rattle.core_means.specs.Means.{inner}
use Rattle.eval_terms.proofs.Steps.{arguments_turn}
use Rattle.eval_terms.proofs.calls.arguments.Goals as goal

pub loop-rest-preserved : goal.loop-rest-preserved
loop-rest-preserved g c =
    arguments_turn (inner c.args.inner.now.setting.now.program.now c.args.room) _ _ _ _ _ _ _ _ _ _ _
    c.in-len1-up.len_at_least c.filling-item.is c.in_ok-value.ensures.does c.in_ok-push.ensures.ok c.loop-rest.invariant
