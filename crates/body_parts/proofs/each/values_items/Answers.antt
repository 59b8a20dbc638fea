use Rattle.body_parts.proofs.Turns.{value_right, next_value}
use Rattle.body_parts.specs.Nests.{of}
use Rattle.body_parts.proofs.each.values_items.Goals as goal

pub item_of-requires-clause-right : goal.item_of-requires-clause-right
item_of-requires-clause-right g c =
    value_right (of c.args.builder.now) c.args.rule c.args.content.now _ _ _ _ _ _ _ _ _
    c.in-len1-up.len_at_least c.element-item.is c.in_ok-copy.ensures c.loop-rest.invariant c.requires.right

pub loop-rest-preserved : goal.loop-rest-preserved
loop-rest-preserved g c =
    next_value (of c.args.builder.now) c.args.rule c.args.content.now _ _ _ _ _ _ _ _ _ _ _ _ _ _
    c.in-len1-up.len_at_least c.element-item.is c.in_ok-copy.ensures c.in_ok-item.ensures.does c.in_ok-noted.ensures.value c.in_ok-push.ensures.ok c.loop-rest.invariant
