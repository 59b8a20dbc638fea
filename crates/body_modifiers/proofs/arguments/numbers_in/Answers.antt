use Rattle.body_modifiers.proofs.Options.{number_there, numbers_end, numbers_turn}
use Rattle.body_modifiers.proofs.arguments.numbers_in.Goals as goal

pub number_in-number-requires : goal.number_in-number-requires
number_in-number-requires c = number_there _ _ _ _ c.in-len1-up.len_at_least c.argument-item.is c.loop-rest.invariant c.requires

pub loop-rest-preserved : goal.loop-rest-preserved
loop-rest-preserved c =
    numbers_turn _ _ _ _ _ _
    c.in-len1-up.len_at_least c.argument-item.is c.number_in-number.ensures c.in_ok-push.ensures.ok c.loop-rest.invariant

pub returns : goal.returns
returns c = numbers_end _ _ _ c.in_default.len_below c.loop-rest.invariant
