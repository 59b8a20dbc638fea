use Rattle.view_rules.specs.Items.{items_to}
use Rattle.view_calls.proofs.Turns.{modified_turn}
use Rattle.view_calls.proofs.modifiers.+modified.Goals as goal

pub returns-in_ok-done-in-len2-up : goal.returns-in_ok-done-in-len2-up
returns-in_ok-done-in-len2-up g t c = record {
  found = modified_turn (items_to c.args.inner.now.room) c.args.scope.now c.modifier.new.scope c.modified.new.scope c.args.blocks.now c.modifier.new.blocks c.modified.new.blocks c.args.done c.in_ok-done-in-len2-up.done c.in_ok-call-in-len2-up.call c.args.parts.now c.dot-item.result c.part-item.result c.modified.result c.in-len2-up.len_at_least c.dot-item.is c.part-item.is c.in_ok-call-in-len2-up.ensures.found c.in_ok-done-in-len2-up.ensures.value c.modified.ensures.found;
}
