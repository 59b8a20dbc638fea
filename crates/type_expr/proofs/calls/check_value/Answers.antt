use Rattle.value_rules.specs.Values.{infer, levels, value_decided}
use Rattle.type_expr.proofs.calls.check_value.Goals as goal

pub returns : goal.returns
unfolding infer levels
returns c = record { found = c.check_to.ensures.found; typed = value_decided c.check_to.result _ _ _ c.check_to.ensures.found }
