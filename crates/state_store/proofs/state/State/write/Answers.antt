use Rattle.std.proofs.Common.{◌+◌, ◌-◌, ◌≤◌, sym, ap, ◌∙◌, arith}
use Rattle.sv_value.specs.Value.{weight}
use Rattle.sv_value.specs.Hops.{with_part}
use Rattle.identity_path.specs.Cells.{total_of, write_answer, max_weight}
use Rattle.identity_path.specs.Totals.{slot-total_of, total_of-written}
use Rattle.state_store.proofs.StateLemmas.{answer_heavy, answer_light}
use Rattle.state_store.proofs.state.State.write.Goals as goal

pub weigh-requires-clause-light : goal.weigh-requires-clause-light
weigh-requires-clause-light c =
    let within = slot-total_of c.self.inside.table c.args.place.now c.slot.result.now c.slot.ensures in
    omega (arith, c.self.invariant.0, c.self.invariant.1)

pub overflow_sub-total : goal.overflow_sub-total
overflow_sub-total c =
    let within = slot-total_of c.self.inside.table c.args.place.now c.slot.result.now c.slot.ensures in
    omega (arith, c.self.invariant.0, c.in-Ok.ensures.before)

pub invariant_of-self : goal.invariant_of-self
invariant_of-self c =
    let within = slot-total_of c.self.inside.table c.args.place.now c.slot.result.now c.slot.ensures in
    let new = total_of-written c.self.inside.table c.args.place.now c.args.value c.slot.result.now c.slot.ensures in
    let put = ap total_of c.put.ensures in
    (omega (arith, c.self.invariant.0, c.in-Ok.ensures.before, c.in-Ok.ensures.after, c.if-weights-gt-MAX_WEIGHT.false), c.if-total-gt-MAX_TOTAL.false)

pub returns-then-total-gt-MAX_TOTAL-clause-answer : goal.returns-then-total-gt-MAX_TOTAL-clause-answer
returns-then-total-gt-MAX_TOTAL-clause-answer c =
    let cells = c.self.inside.table in
    let place = c.args.place.now in
    let whole = c.slot.result.now in
    let within = slot-total_of cells place whole c.slot.ensures in
    let new = total_of-written cells place c.args.value whole c.slot.ensures in
    let light : weight (with_part place.hops c.args.value whole) ≤ max_weight = omega (arith, c.in-Ok.ensures.after, c.if-weights-gt-MAX_WEIGHT.false) in
    sym (ap (λ m. write_answer m place c.args.value) (sym c.self.view_is)
    ∙ answer_heavy cells place c.args.value whole c.in-Ok.ensures.answer.0 (c.self.inside.total - c.in-Ok.weights.before + c.in-Ok.weights.after) c.slot.ensures c.in-Ok.ensures.answer.1 light
    (omega (arith, c.self.invariant.0, c.in-Ok.ensures.before, c.in-Ok.ensures.after)) c.if-total-gt-MAX_TOTAL.true)

pub returns-else-total-gt-MAX_TOTAL-clause-answer : goal.returns-else-total-gt-MAX_TOTAL-clause-answer
returns-else-total-gt-MAX_TOTAL-clause-answer c =
    let cells = c.self.inside.table in
    let place = c.args.place.now in
    let whole = c.slot.result.now in
    let within = slot-total_of cells place whole c.slot.ensures in
    let new = total_of-written cells place c.args.value whole c.slot.ensures in
    let light : weight (with_part place.hops c.args.value whole) ≤ max_weight = omega (arith, c.in-Ok.ensures.after, c.if-weights-gt-MAX_WEIGHT.false) in
    sym (ap (λ m. write_answer m place c.args.value) (sym c.self.view_is)
    ∙ answer_light cells place c.args.value whole c.in-Ok.ensures.answer.0 (c.self.inside.total - c.in-Ok.weights.before + c.in-Ok.weights.after) c.slot.ensures c.in-Ok.ensures.answer.1 light
    (omega (arith, c.self.invariant.0, c.in-Ok.ensures.before, c.in-Ok.ensures.after)) c.if-total-gt-MAX_TOTAL.false)
