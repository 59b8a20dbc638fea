use Rattle.std.proofs.Common.{Some, true}
use Rattle.sv_value.specs.declared.value.Value.TheVariants as whole
use Rattle.body_modifiers.proofs.Options.{values_end, values_turn}
use Rattle.body_modifiers.proofs.arguments.truths_in.Goals as goal

pub loop-rest-preserved : goal.loop-rest-preserved
loop-rest-preserved c =
    values_turn (Some (whole.Bool true)) _ _ _ _ _ _
    c.in-len1-up.len_at_least c.argument-item.is c.in_ok-input.ensures c.in_ok-push.ensures.ok c.loop-rest.invariant

pub returns : goal.returns
returns c = values_end (Some (whole.Bool true)) _ _ _ c.in_default.len_below c.loop-rest.invariant
