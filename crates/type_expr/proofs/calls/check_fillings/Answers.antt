use Rattle.value_rules.specs.Values.{infer_fillings, infer, levels, fillings_decided}
use Rattle.type_expr.proofs.calls.check_fillings.Goals as goal

pub returns : goal.returns
unfolding infer_fillings infer levels
returns c = record { found = c.fillings.ensures.found; typed = fillings_decided c.fillings.result _ _ _ c.fillings.ensures.found }
