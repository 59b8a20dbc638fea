use Rattle.std.proofs.Common.{arith}
use Rattle.core_means.specs.Means.{inner}
use Rattle.eval_terms.proofs.Steps.{fields_turn}
use Rattle.eval_terms.proofs.calls.fields.Goals as goal

pub loop-rest-preserved : goal.loop-rest-preserved
loop-rest-preserved g c =
    fields_turn (inner c.args.inner.now.setting.now.program.now c.args.room) _ _ _ _ _ c.loop-rest.rest.now _ c.loop-rest.given.now _ _ _ _ _
    c.in-len1-up.len_at_least c.filling-item.is (omega arith) c.argument-item.is c.in_ok-value.ensures.does c.in_ok-push.ensures.ok c.loop-rest.invariant
