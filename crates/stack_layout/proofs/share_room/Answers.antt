use Rattle.std.proofs.Common.{rules, ◌≡◌, ◌<◌, List, subst, sym, ap, ◌∙◌}
use Rattle.std.specs.Prelude.{All, map}
use Rattle.stack_layout.specs.declared.Slot.{Slot}
use Rattle.stack_layout.specs.Views.{Views}
use Rattle.stack_layout.specs.Stacks.{smallest}
use Rattle.stack_layout.specs.InTurn.{takes}
use Rattle.stack_layout.specs.Slots.{turn_of, priority_of, IsSized}
use Rattle.stack_layout.proofs.Places.{ready_places, ready_sizes, Steps, sizes_shared, stand_in_place, priorities_stay, room_suffices, taken_by_groups}
use Rattle.std.proofs.lemmas.List.Sorted.{All-permutation}
use Rattle.stack_layout.specs.Stacks.{Taken, at_places, taken_at}
use Rattle.stack_layout.proofs.share_room.Goals as goal

pub offer_all-requires-clause-places : goal.offer_all-requires-clause-places
offer_all-requires-clause-places g c =
    subst (λ (w : Views). All (λ (s : Slot). s.place < w.count) c.into_turns.new.slots) (sym c.measure.ensures.same)
    (ready_places (g.S.Sizes.views c.args.children.now) c.args.axis c.args.c c.args.slots.now c.measure.new.slots c.into_turns.new.slots
    c.in_ok-measure.ensures.ok c.into_turns.ensures.permutation c.requires.places c.requires.count)

pub offer_all-requires-clause-smallest : goal.offer_all-requires-clause-smallest
offer_all-requires-clause-smallest g c =
    subst (λ (w : Views). All (λ (s : Slot). s.size ≡ smallest w c.args.axis c.args.c s.place) c.into_turns.new.slots) (sym c.measure.ensures.same)
    (ready_sizes (g.S.Sizes.views c.args.children.now) c.args.axis c.args.c c.args.slots.now c.measure.new.slots c.into_turns.new.slots
    c.in_ok-measure.ensures.ok c.into_turns.ensures.permutation)

pub returns : goal.returns
returns g c =
    let v = g.S.Sizes.views c.args.children.now in
    let steps : Steps v c.args.axis c.args.c c.args.room c.args.slots.now c.measure.new.slots c.into_turns.new.slots c.offer_all.new.slots c.into_places.new.slots = record {
      in_place = c.requires.places;
      measures = c.in_ok-measure.ensures.ok;
      turns = c.into_turns.ensures.turns;
      turned = c.into_turns.ensures.permutation;
      shares = c.in_ok-offer_all.ensures.ok ∙ ap (λ (w : Views). takes w c.args.axis c.args.c (map turn_of c.into_turns.new.slots) c.args.room) c.measure.ensures.same;
      places = c.into_places.ensures.places;
      placed = c.into_places.ensures.permutation;
      kept = c.in_ok-offer_all.ensures.turns;
    } in
    record {
      sizes = sizes_shared _ _ _ _ _ _ _ _ _ steps
          ∙ ap (λ (ts : List Taken). at_places (taken_at ts) 0 (map priority_of c.args.slots.now)) (taken_by_groups _ _ _ _ _ _ _ _ _ steps);
      priorities = priorities_stay _ _ _ _ _ _ _ _ _ steps;
      sized = All-permutation IsSized c.offer_all.new.slots c.into_places.new.slots c.into_places.ensures.permutation c.in_ok-offer_all.ensures.sized;
      fits = room_suffices _ _ _ _ _ _ _ _ _ steps;
      places = stand_in_place _ _ _ _ _ _ _ _ _ steps;
      same = c.offer_all.ensures.same ∙ c.measure.ensures.same;
      refused = search rules;
      never_falls = search rules;
    }
