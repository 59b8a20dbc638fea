use Rattle.std.proofs.Common.{[], ◌∷◌, List, length, sym, ap, subst, arith, length-append}
use Rattle.view_engine.specs.declared.form.Event.{Event}
use Rattle.counter_form.proofs.Tapping.{SoFar, one_more, all_so_far, no_line, same_script, not_nothing, nothing_left}
use Rattle.counter_form.proofs.script.read_script.Goals as goal

pub returns-in_default-clause-fault : goal.returns-in_default-clause-fault
returns-in_default-clause-fault c = no_line c.loop-rest.invariant.so_far
    (not_nothing c.loop-rest.rest.now c.is_empty.result c.is_empty.ensures c.loop-rest-test.true) c.in_default.ensures

pub loop-rest-preserved : goal.loop-rest-preserved
loop-rest-preserved c =
    let items = c.in_ok-push.ensures.items in
    record {
      so_far = subst (λ (l : List Event). SoFar c.args.bytes.now l c.in-Some.behind.now) (sym items) (one_more c.loop-rest.invariant.so_far c.in-Some.ensures);
      few = omega (arith, ap length items, length-append c.loop-rest.events.items (c.in-Some.event ∷ []));
    }

pub returns-clause-spelt : goal.returns-clause-spelt
returns-clause-spelt c = record { taps = all_so_far c.loop-rest.invariant.so_far (nothing_left c.loop-rest.rest.now c.is_empty.result c.is_empty.ensures c.loop-rest-test.false); few = c.loop-rest.invariant.few }

pub returns-clause-only : goal.returns-clause-only
returns-clause-only c = λ others s. same_script s (record { taps = all_so_far c.loop-rest.invariant.so_far (nothing_left c.loop-rest.rest.now c.is_empty.result c.is_empty.ensures c.loop-rest-test.false); few = c.loop-rest.invariant.few })
