use Rattle.std.proofs.Common.{None}
use Rattle.body_modifiers.proofs.Options.{value_there, values_end, values_turn}
use Rattle.body_modifiers.proofs.arguments.values_in.Goals as goal

pub value_in-requires : goal.value_in-requires
value_in-requires c = value_there None _ _ _ _ c.in-len1-up.len_at_least c.argument-item.is c.loop-rest.invariant c.requires

pub loop-rest-preserved : goal.loop-rest-preserved
loop-rest-preserved c =
    values_turn None _ _ _ _ _ _
    c.in-len1-up.len_at_least c.argument-item.is c.in_ok-input.ensures c.in_ok-push.ensures.ok c.loop-rest.invariant

pub returns : goal.returns
returns c = values_end None _ _ _ c.in_default.len_below c.loop-rest.invariant
