use Rattle.value_rules.specs.Values.{infer_effect, infer, levels, effect_decided}
use Rattle.type_expr.proofs.calls.check_effect.Goals as goal

pub returns : goal.returns
unfolding infer_effect infer levels
returns c = record { found = c.effect.ensures.found; typed = effect_decided c.effect.result _ _ c.effect.ensures.found }
