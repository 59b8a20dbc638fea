use Rattle.body_parts.specs.Nests.{of}
use Rattle.body_modifiers.proofs.Turns.{modifiers_turn}
use Rattle.body_modifiers.proofs.modified.modifiers_from.Goals as goal

pub loop-rest-preserved : goal.loop-rest-preserved
loop-rest-preserved g c =
    modifiers_turn (of c.args.builder.now) _ _ _ _ _ _ _ _ _ _ _ _ _ _ _
    c.in-len1-up.len_at_least c.first-item.is c.in_ok-next.ensures.does
    c.saturating_add-further.ensures c.decorations_in.ensures c.saturating_add-deeper.ensures c.loop-rest.invariant
