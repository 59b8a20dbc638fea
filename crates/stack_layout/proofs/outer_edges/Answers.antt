use Rattle.std.proofs.Common.{rules, ◌<◌, length, get_or, pos, sym, ◌≤◌, subst}
use Rattle.stack_layout.specs.declared.Slot.{Slot}
use Rattle.stack_layout.specs.Slots.{IsSized}
use Rattle.align_guides.specs.Lengths.{IsSize}
use Rattle.std.proofs.lemmas.List.Elements.{All-get_or}
use Rattle.stack_layout.proofs.EdgeLemmas.{tops_more, bottoms_more, signed_top, signed_bottom, bottom_fits, along_le}
use Rattle.stack_layout.proofs.outer_edges.Goals as goal

pub loop-i-preserved : goal.loop-i-preserved
loop-i-preserved g c =
    let d : Slot = record { priority = pos 0; flex = 0; place = 0; size = record { w = 0; h = 0 } } in
    let v = g.S.Sizes.views c.args.children.now in
    let xs = c.args.slots.now in
    let lt : c.loop-i.i < length xs = c.loop-i-test.true in
    let inv = c.loop-i.invariant in
    let size = (get_or xs c.loop-i.i d).size in
    let one = c.guide-g-in-loop-i.ensures in
    let sized : IsSize size = All-get_or IsSized xs c.loop-i.i d lt c.requires.sized in
    let small : c.length_along-in-loop-i.result ≤ 1000000 = subst (λ n. n ≤ 1000000) (sym c.length_along-in-loop-i.ensures) (along_le c.args.cross size sized) in
    let top = signed_top _ c.min-top.result c.guide-g-in-loop-i.result _ one.value one.bounds.low one.bounds.high inv.top_low inv.top_high c.min-top.ensures.value in
    let bottom = signed_bottom _ c.max-bottom.result c.guide-g-in-loop-i.result _ c.from-in-loop-i.result c.length_along-in-loop-i.result _ one.value c.from-in-loop-i.ensures c.length_along-in-loop-i.ensures small one.bounds.low one.bounds.high inv.bottom_low inv.bottom_high c.max-bottom.ensures.value in
    record {
      top_told = tops_more v c.args.cross xs c.loop-i.i d lt _ _ _ top inv.top_told;
      bottom_told = bottoms_more v c.args.cross xs c.loop-i.i d lt _ _ _ bottom inv.bottom_told;
      top_low = search rules;
      top_high = search rules;
      bottom_low = search rules;
      bottom_high = bottom_fits _ c.max-bottom.result c.guide-g-in-loop-i.result c.from-in-loop-i.result c.length_along-in-loop-i.result c.from-in-loop-i.ensures small one.bounds.low one.bounds.high inv.bottom_low inv.bottom_high c.max-bottom.ensures.value;
    }
