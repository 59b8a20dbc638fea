use Rattle.std.proofs.Common.{sym, ap, ◌∙◌}
use Rattle.std.specs.Prelude.{map}
use Rattle.std.proofs.lemmas.List.{length-map}
use Rattle.stack_layout.specs.Slots.{priority_of}
use Rattle.align_guides.specs.Lengths.{saturated}
use Rattle.stack_layout.specs.Stacks.{gaps_of}
use Rattle.stack_layout.proofs.Fits.{share_fits, proposed_le}
use Rattle.stack_layout.proofs.fill_along.Goals as goal

pub returns-in-Some-clause-fits : goal.returns-in-Some-clause-fits
returns-in-Some-clause-fits g c =
    share_fits c.share_room.result (g.S.Sizes.views c.args.children.now) c.args.axis (map priority_of c.args.slots.now) _ _ c.across_of-c.result c.in-Some.length _ _ _ _
    c.in-Some.ensures c.across_of-c.ensures (proposed_le c.args.axis c.args.p c.in-Some.length c.requires.p c.in-Some.ensures)
    (c.gaps.ensures.value ∙ ap (λ n. saturated (gaps_of c.args.spacing n)) (sym (length-map c.args.slots.now priority_of))) c.saturating_sub-room.ensures c.share_room.ensures.fits
