use Rattle.core_means.specs.Means.{inner}
use Rattle.eval_forms.proofs.Turns.{next_case}
use Rattle.eval_forms.proofs.statements.case.Goals as goal

pub loop-rest-preserved : goal.loop-rest-preserved
loop-rest-preserved g c =
    next_case (inner c.args.inner.now.setting.now.program.now c.args.room) _ _ _ _ _ _ _ _
    c.in-len1-up.len_at_least c.first-item.is c.matches-is_matched.ensures c.if-is_matched.false c.loop-rest.invariant
