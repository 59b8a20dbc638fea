use Rattle.std.proofs.Common.{◌≡◌, ◌<◌, length, get_or, ap, sym, ◌∙◌, arith}
use Rattle.std.specs.Prelude.{pos}
use Rattle.align_guides.specs.declared.Size.{Size}
use Rattle.stack_layout.specs.declared.Slot.{Slot}
use Rattle.stack_layout.specs.Slots.{sized_for, IsSized}
use Rattle.stack_layout.specs.Views.{Views}
use Rattle.stack_layout.proofs.SlotLemmas.{not_yet, written_more, all_more, all_of_all}
use Rattle.stack_layout.proofs.Places.{same_sizes, same_places_kept, same_priorities, all_written}
use Rattle.stack_layout.proofs.propose_all.Goals as goal

pub loop-i-preserved : goal.loop-i-preserved
loop-i-preserved g c =
    let v = g.S.Sizes.views c.args.children.now in
    let d : Slot = record { priority = pos 0; flex = 0; place = 0; size = record { w = 0; h = 0 } } in
    let xs = c.args.slots.now in
    let ys = c.loop-i.slots in
    let i = c.loop-i.i in
    let inv = c.loop-i.invariant in
    let f = sized_for v c.args.p in
    let lt : i < length xs = omega arith in
    let long : i < length ys = omega arith in
    let same_slot : get_or ys i d ≡ get_or xs i d = not_yet f xs ys i d lt inv.written in
    let place : (get_or xs i d).place ≡ i = c.requires.places.at i d lt in
    let size : c.in_ok-taken.taken ≡ v.size (get_or xs i d).place c.args.p =
    c.in_ok-taken.ensures.value ∙ ap (λ (w : Views). w.size i c.args.p) inv.same ∙ ap (λ k. v.size k c.args.p) (sym place) in
    record {
      written = written_more f xs ys i d _ lt inv.written
          (ap (λ (z : Slot). record z { size = c.in_ok-taken.taken }) same_slot ∙ ap (λ (z : Size). record (get_or xs i d) { size = z }) size);
      sized = all_more IsSized ys i _ long c.in_ok-taken.ensures.lengths inv.sized;
      same = c.size.ensures.same ∙ inv.same;
      never_falls = omega arith;
    }

pub returns-clause-sizes : goal.returns-clause-sizes
returns-clause-sizes g c =
    same_sizes (g.S.Sizes.views c.args.children.now) c.args.p c.args.slots.now c.loop-i.slots c.requires.places
    (all_written _ c.args.slots.now c.loop-i.slots c.loop-i.i c.loop-i-test.false c.loop-i.invariant.written)

pub returns-clause-places : goal.returns-clause-places
returns-clause-places g c =
    same_places_kept (g.S.Sizes.views c.args.children.now) c.args.p c.args.slots.now c.loop-i.slots c.requires.places
    (all_written _ c.args.slots.now c.loop-i.slots c.loop-i.i c.loop-i-test.false c.loop-i.invariant.written)

pub returns-clause-priorities : goal.returns-clause-priorities
returns-clause-priorities g c =
    same_priorities (g.S.Sizes.views c.args.children.now) c.args.p c.args.slots.now c.loop-i.slots c.requires.places
    (all_written _ c.args.slots.now c.loop-i.slots c.loop-i.i c.loop-i-test.false c.loop-i.invariant.written)

pub returns-clause-sized : goal.returns-clause-sized
returns-clause-sized g c = all_of_all IsSized c.loop-i.slots c.loop-i.i (omega arith) c.loop-i.invariant.sized
