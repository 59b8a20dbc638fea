use Rattle.std.proofs.Common.{◌≡◌, ◌<◌, length, get_or, ap, ◌∙◌, arith}
use Rattle.std.specs.Prelude.{pos}
use Rattle.stack_layout.specs.Stacks.{smallest, largest}
use Rattle.stack_layout.specs.declared.Slot.{Slot}
use Rattle.stack_layout.specs.Slots.{measured}
use Rattle.stack_layout.specs.Views.{Views}
use Rattle.stack_layout.proofs.SlotLemmas.{measured_is, not_yet, written_more}
use Rattle.stack_layout.proofs.measure.Goals as goal

pub loop-i-preserved : goal.loop-i-preserved
loop-i-preserved g c =
    let v = g.S.Sizes.views c.args.children.now in
    let d : Slot = record { priority = pos 0; flex = 0; place = 0; size = record { w = 0; h = 0 } } in
    let xs = c.args.slots.now in
    let ys = c.loop-i.slots in
    let i = c.loop-i.i in
    let inv = c.loop-i.invariant in
    let f = measured v c.args.axis c.args.c in
    let lt : i < length xs = omega arith in
    let same_slot : get_or ys i d ≡ get_or xs i d = not_yet f xs ys i d lt inv.written in
    let place : (get_or xs i d).place ≡ i = c.requires.places.at i d lt in
    let small : c.in_ok-small.small ≡ smallest v c.args.axis c.args.c i = c.in_ok-small.ensures.value ∙ ap (λ (w : Views). smallest w c.args.axis c.args.c i) inv.same in
    let large : c.in_ok-large.large ≡ largest v c.args.axis c.args.c i = c.in_ok-large.ensures.value ∙ ap (λ (w : Views). largest w c.args.axis c.args.c i) (c.ask.ensures.same ∙ inv.same) in
    record {
      written = written_more f xs ys i d _ lt inv.written
          (measured_is v c.args.axis c.args.c (get_or xs i d) (get_or ys i d) i _ _ _ _ _ same_slot place small large c.length_along.ensures c.length_along-in-loop-i.ensures c.saturating_sub-flex.ensures);
      same = c.ask-in-loop-i.ensures.same ∙ c.ask.ensures.same ∙ inv.same;
      never_falls = omega arith;
    }
