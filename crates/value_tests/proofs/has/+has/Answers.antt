use Rattle.std.proofs.Common.{rules}
use Rattle.sv_value.specs.declared.value.Value.TheViews as value_view
use Rattle.swift_core.specs.declared.ty.Ty.TheViews as ty_view
use Rattle.value_tests.proofs.Levels.{filled_level}
use Rattle.value_tests.proofs.Runs.{rest_turn, rest_fails, rest_ends, unfit, fit}
use Rattle.value_tests.proofs.has.+has.Goals as goal

pub fields_have-returns-in-None-type_at : goal.fields_have-returns-in-None-type_at
fields_have-returns-in-None-type_at t c = record {
  value = unfit c.args.table.now c.args.named c.args.number c.args.values.now c.in-Some.declaration.now c.as_slice-members.result.now (search rules) (search rules)
      (rest_ends c.args.table.now c.as_slice-members.result.now c.args.values.now c.loop-i.next c.next_input-at.result c.loop-i.i c.next_input-at.ensures.skipped c.next_input-at.ensures.stops (search rules) c.loop-i-test.true c.loop-i.invariant);
}

pub fields_have-returns-then-not-has : goal.fields_have-returns-then-not-has
fields_have-returns-then-not-has t c = record {
  value = unfit c.args.table.now c.args.named c.args.number c.args.values.now c.in-Some.declaration.now c.as_slice-members.result.now (search rules) (search rules)
      (rest_fails c.args.table.now c.as_slice-members.result.now c.args.values.now c.loop-i.next c.next_input-at.result c.loop-i.i c.in-Some-type_at.ty.now c.index-values-i.result c.has.result
      c.next_input-at.ensures.skipped (search rules) c.loop-i-test.true c.index-values-i.is c.has.ensures.value (search rules) c.loop-i.invariant);
}

pub fields_have-loop-i-preserved : goal.fields_have-loop-i-preserved
fields_have-loop-i-preserved t c =
    rest_turn c.args.table.now c.as_slice-members.result.now c.args.values.now c.loop-i.next c.next_input-at.result c.loop-i.i c.in-Some-type_at.ty.now c.index-values-i.result c.has.result
    c.next_input-at.ensures.skipped (search rules) c.loop-i-test.true c.index-values-i.is c.has.ensures.value (search rules) c.loop-i.invariant

pub fields_have-returns : goal.fields_have-returns
fields_have-returns t c = record {
  value = fit c.args.table.now c.args.named c.args.number c.args.values.now c.in-Some.declaration.now c.as_slice-members.result.now c.loop-i.next c.loop-i.i c.none_left.result
      (search rules) (search rules) (search rules) (search rules) c.none_left.ensures.value c.loop-i.invariant;
}

pub has-returns-in-Optional-Opt-Some : goal.has-returns-in-Optional-Opt-Some
has-returns-in-Optional-Opt-Some t c = record {
  value = filled_level c.args.table.now c.args.ty.now c.get-in-Optional-Opt-Some-2.result.now c.args.value.now c.get-in-Optional-Opt-Some.result.now c.has.result (search (rules, ty_view.the_lemmas)) (search (rules, value_view.the_lemmas)) c.has.ensures.value;
}
