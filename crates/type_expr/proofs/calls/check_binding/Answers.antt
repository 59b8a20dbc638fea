use Rattle.value_rules.specs.Values.{infer_binding, infer, levels, binding_decided}
use Rattle.type_expr.proofs.calls.check_binding.Goals as goal

pub returns : goal.returns
unfolding infer_binding infer levels
returns c = record { found = c.binding.ensures.found; typed = binding_decided c.binding.result _ _ c.binding.ensures.found }
