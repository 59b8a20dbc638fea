use Rattle.value_rules.specs.Values.{infer_indices, infer, levels, indices_decided}
use Rattle.type_expr.proofs.calls.check_indices.Goals as goal

pub returns : goal.returns
unfolding infer_indices infer levels
returns c = record { found = c.indices.ensures.found; typed = indices_decided c.indices.result _ _ c.indices.ensures.found }
