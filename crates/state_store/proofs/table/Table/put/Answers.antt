use Rattle.std.proofs.Common.{◌≡◌, IsSome, OnOk, refl, sym, ap, subst, ◌∙◌, slice_index_or, slice_set}
use Rattle.std.specs.FinMap as fin
use Rattle.std.proofs.lemmas.Option.{slice_get_within, get_or_from_slice_get}
use Rattle.sv_value.specs.Hops.{part_at, with_part, answer_of}
use Rattle.sv_value.specs.declared.value.Value.{Value}
use Rattle.identity_path.specs.Totals.{written_is, found_from, found_value}
use Rattle.state_store.proofs.StateLemmas.{slot_from, held_from, get_held, map_of-put}
use Rattle.state_store.proofs.table.Table.put.Goals as goal

pub set_in-requires-clause-within : goal.set_in-requires-clause-within
set_in-requires-clause-within c =
    let held = held_from c.self.inside.cells.entries c.args.self.now c.args.place.now.path c.in-Some.slots.now c.self.view_is c.in-Some.ensures.value in
    let slot = slot_from c.args.self.now c.args.place.now c.in-Some.slots.now _ held c.requires.1 in
    slice_get_within c.in-Some.slots.now c.args.place.now.slot slot.whole slot.there

pub set_in-requires-clause-fits : goal.set_in-requires-clause-fits
set_in-requires-clause-fits c = λ d.
    let held = held_from c.self.inside.cells.entries c.args.self.now c.args.place.now.path c.in-Some.slots.now c.self.view_is c.in-Some.ensures.value in
    let slot = slot_from c.args.self.now c.args.place.now c.in-Some.slots.now _ held c.requires.1 in
    let same = get_or_from_slice_get c.in-Some.slots.now c.args.place.now.slot slot.whole d slot.there in
    subst IsSome (sym ((λ i. part_at (c.as_slice.ensures i) (same i)) ∙ slot.fits)) refl

pub unreachable-requires : goal.unreachable-requires
unreachable-requires c =
    let found = found_value c.args.self.now c.args.place.now _ c.requires.1 in
    let held = (found_from c.args.self.now c.args.place.now found.0 found.1).held in
    let none = ap (λ m. fin.get m c.args.place.now.path) (sym c.self.view_is) ∙ get_held c.self.inside.cells.entries c.args.place.now.path ∙ sym c.in-None.ensures.value in
    cc

pub returns : goal.returns
returns c =
    let slots = c.in-Some.slots.now in
    let place = c.args.place.now in
    let held = held_from c.self.inside.cells.entries c.args.self.now place.path slots c.self.view_is c.in-Some.ensures.value in
    let slot = slot_from c.args.self.now place slots _ held c.requires.1 in
    let same = get_or_from_slice_get slots place.slot slot.whole slot.whole slot.there in
    let ok = c.set_in.ensures.answer slot.whole ∙ ap answer_of ((λ i. part_at (c.as_slice.ensures i) (same i)) ∙ slot.fits) in
    let set : (d : Value) → c.set_in.new.parts ≡ slice_set slots place.slot (with_part c.as_slice.result.now c.args.value (slice_index_or slots place.slot d)) =
    subst (λ r. OnOk r ((d : Value) → c.set_in.new.parts ≡ slice_set slots place.slot (with_part c.as_slice.result.now c.args.value (slice_index_or slots place.slot d)))) ok c.set_in.ensures.ok in
    let parts = set slot.whole ∙ (λ i. slice_set slots place.slot (with_part (c.as_slice.ensures i) c.args.value (same i))) in
    let through = c.get_mut.follows.holds c.set_in.new.parts in
    let there = subst IsSome c.in-Some.ensures.value refl in
    map_of-put c.self.inside.cells.entries (c.get_mut.follows.lender c.set_in.new.parts).entries place.path c.set_in.new.parts (through.3 there).0
    ∙ (λ i. fin.insert (c.self.view_is i) place.path (parts i))
    ∙ sym (written_is c.args.self.now place c.args.value slot.whole (record { slots = slots; held = held; there = slot.there }))
