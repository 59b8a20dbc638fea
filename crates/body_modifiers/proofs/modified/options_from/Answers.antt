use Rattle.body_parts.specs.Nests.{of}
use Rattle.body_modifiers.proofs.Turns.{options_turn}
use Rattle.body_modifiers.proofs.modified.options_from.Goals as goal

pub loop-rest-preserved : goal.loop-rest-preserved
loop-rest-preserved g c =
    options_turn (of c.args.builder.now) _ _ _ _ _ _ _ _ _ _ _
    c.in-len1-up.len_at_least c.argument-item.is c.in_ok-value.ensures.does c.in_ok-push.ensures.ok c.loop-rest.invariant
