use Rattle.swift_core.specs.declared.item.IdRule.TheVariants.{Itself}
use Rattle.body_parts.proofs.Turns.{number_right, number_stops, next_number, last_number}
use Rattle.body_parts.specs.Nests.{of}
use Rattle.body_parts.proofs.each.numbers_items.Goals as goal

pub item_of-requires-clause-right : goal.item_of-requires-clause-right
item_of-requires-clause-right g c =
    number_right (of c.args.builder.now) Itself c.args.content.now _ _ _ _ _ _ _ _ _ _
    c.loop-left-test.true c.first_of-element.ensures c.first_of-shown.ensures c.loop-left.invariant.whole c.requires.right

pub returns-in_err-item : goal.returns-in_err-item
returns-in_err-item g c = record {
  does = number_stops (of c.args.builder.now) Itself c.args.content.now _ _ _ _ _ _ _ _ _ _ _ c.in_err-item.field-0.0 c.from_residual.result _
      c.loop-left-test.true c.first_of-element.ensures c.first_of-shown.ensures c.loop-left.invariant.whole c.from_residual.ensures.1 c.in_err-item.ensures.does;
}

pub loop-left-preserved : goal.loop-left-preserved
loop-left-preserved g c = record {
  whole = next_number (of c.args.builder.now) Itself c.args.content.now _ _ _ _ _ _ _ _ _ _ _ _ _ _ _ _ _
      c.loop-left-test.true c.first_of-element.ensures c.first_of-shown.ensures c.in_ok-item.ensures.does c.in_ok-noted.ensures.value c.in_ok-push.ensures.ok
      c.after-next.ensures.count c.after-next.ensures.first c.loop-left.invariant.whole;
  fits = c.after-next.ensures.fits;
}

pub returns-then-left-eq1 : goal.returns-then-left-eq1
returns-then-left-eq1 g c = record {
  does = last_number (of c.args.builder.now) Itself c.args.content.now _ _ _ _ _ _ _ _ _ _ _ _ _ _
      c.if-left-eq1.true c.first_of-element.ensures c.first_of-shown.ensures c.in_ok-item.ensures.does c.in_ok-push.ensures.ok c.loop-left.invariant.whole;
}
