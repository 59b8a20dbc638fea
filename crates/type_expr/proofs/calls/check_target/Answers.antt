use Rattle.value_rules.specs.Values.{infer_target, infer, levels, target_decided}
use Rattle.type_expr.proofs.calls.check_target.Goals as goal

pub returns : goal.returns
unfolding infer_target infer levels
returns c = record { found = c.target.ensures.found; typed = target_decided c.target.result _ _ c.target.ensures.found }
