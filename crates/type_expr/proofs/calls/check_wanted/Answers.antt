use Rattle.value_rules.specs.Values.{infer_wanted, infer, levels, wanted_decided}
use Rattle.type_expr.proofs.calls.check_wanted.Goals as goal

pub returns : goal.returns
unfolding infer_wanted infer levels
returns c = record { found = c.wanted.ensures.found; typed = wanted_decided c.wanted.result _ _ _ c.wanted.ensures.found }
