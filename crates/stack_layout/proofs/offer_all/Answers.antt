use Rattle.std.proofs.Common.{◌≡◌, ◌+◌, ◌<◌, length, get_or, ap, sym, ◌∙◌, arith, drop, subst, ◌-◌, ◌++◌, take, set, length-set, refl}
use Rattle.std.specs.Prelude.{map, pos, Some}
use Rattle.std.proofs.lemmas.List.Elements.{All-get_or, All-drop}
use Rattle.stack_layout.specs.Stacks.{offered, along}
use Rattle.stack_layout.specs.InTurn.{takes}
use Rattle.stack_layout.specs.declared.Slot.{Slot}
use Rattle.stack_layout.specs.Views.{Views}
use Rattle.stack_layout.specs.Slots.{slot_share, taken_of, turn_of, IsSized}
use Rattle.stack_layout.proofs.Offers.{same_at, offer_more, HoldsSmallest, rest_more, part_is, map-set_same}
use Rattle.stack_layout.proofs.SlotLemmas.{all_more, all_of_all}
use Rattle.stack_layout.proofs.offer_all.Goals as goal

pub ask-requires-clause-child : goal.ask-requires-clause-child
ask-requires-clause-child g c =
    let d : Slot = record { priority = pos 0; flex = 0; place = 0; size = record { w = 0; h = 0 } } in
    let xs = c.args.slots.now in
    let ys = c.loop-i.slots in
    let i = c.loop-i.i in
    let v = g.S.Sizes.views c.args.children.now in
    let inside : i < length xs = c.loop-i-test.true in
    let placed : (get_or xs i d).place < v.count = All-get_or (λ s. s.place < v.count) xs i d inside c.requires.places in
    let here : (get_or ys i d).place < v.count = subst (λ (s : Slot). s.place < v.count) (sym (same_at xs ys i d c.loop-i.invariant.rest)) placed in
    subst (λ (w : Views). (get_or ys i d).place < w.count) (sym c.loop-i.invariant.same) here

pub loop-i-preserved : goal.loop-i-preserved
loop-i-preserved g c =
    let d : Slot = record { priority = pos 0; flex = 0; place = 0; size = record { w = 0; h = 0 } } in
    let xs = c.args.slots.now in
    let ys = c.loop-i.slots in
    let i = c.loop-i.i in
    let inv = c.loop-i.invariant in
    let v = g.S.Sizes.views c.args.children.now in
    let inside : i < length xs = c.loop-i-test.true in
    let within : i < length ys = omega arith in
    let holds = All-drop (HoldsSmallest v c.args.axis c.args.c) i xs c.requires.smallest in
    let size : c.in_ok-size.size ≡ v.size (get_or ys i d).place (offered c.args.axis (Some (slot_share c.args.axis (drop i ys) c.loop-i.left)) c.args.c) =
    c.in_ok-size.ensures.value
    ∙ ap (λ (w : Views). w.size (get_or ys i d).place (offered c.args.axis (Some c.share-offered.result) c.args.c)) inv.same
    ∙ ap (λ k. v.size (get_or ys i d).place (offered c.args.axis (Some k) c.args.c)) (c.share-offered.ensures.value ∙ ap (λ zs. slot_share c.args.axis zs c.loop-i.left) (part_is ys i)) in
    let less : c.saturating_sub-left.result ≡ c.loop-i.left - along c.args.axis c.in_ok-size.size = c.saturating_sub-left.ensures ∙ ap (λ n. c.loop-i.left - n) c.length_along.ensures in
    record {
      told = ap (λ n. map taken_of (take (i + 1) (set ys i (record (get_or ys i d) { size = c.in_ok-size.size }))) ++ takes v c.args.axis c.args.c (map turn_of (drop (i + 1) xs)) n) less
          ∙ offer_more v c.args.axis c.args.c xs ys i c.loop-i.left c.args.room d c.in_ok-size.size inside inv.long inv.rest holds inv.told size;
      long = length-set ys i _ ∙ inv.long;
      rest = rest_more xs ys i _ inv.rest;
      turns = map-set_same turn_of ys i d _ within refl ∙ inv.turns;
      sized = all_more IsSized ys i _ within c.in_ok-size.ensures.lengths inv.sized;
      left = omega arith;
      same = c.ask.ensures.same ∙ inv.same;
      never_falls = omega arith;
    }

pub returns-clause-sized : goal.returns-clause-sized
returns-clause-sized g c = all_of_all IsSized c.loop-i.slots c.loop-i.i (omega arith) c.loop-i.invariant.sized
