use Rattle.value_rules.specs.Values.{infer_arguments, infer, levels, arguments_decided}
use Rattle.type_expr.proofs.calls.check_arguments.Goals as goal

pub returns : goal.returns
unfolding infer_arguments infer levels
returns c = record { found = c.arguments.ensures.found; typed = arguments_decided c.arguments.result _ _ _ c.arguments.ensures.found }
