-- State slots whose values have types, and what is read and written at places in them.
use Rattle.std.specs.Prelude.{◌≡◌, ℕ, zero, suc, Bool, true, false, cond, ◌⊎◌, List, [], ◌∷◌, Option, Some, slice_get, slice_set, option_and_then}
use Rattle.std.specs.FinMap as fin
use Rattle.std.specs.FinMap.{get-insert}
use Rattle.std.proofs.Common.{refl, sym, ap, subst, ◌∙◌, inl, inr}
use Rattle.sv_value.specs.declared.value.Value.{Value}
use Rattle.sv_value.specs.Hops.{part_at, with_part}
use Rattle.identity_path.specs.declared.place.Place.{Place}
use Rattle.identity_path.specs.declared.step.Step.{Step}
use Rattle.identity_path.specs.Cells.{CellMap, value_at, slots_with, written}
use Rattle.identity_path.specs.Order.{path_cmp_total, same_path, same_path_decides}
use Rattle.identity_path.specs.Totals.{written_is, get-written}
use Rattle.swift_core.specs.declared.table.Table.{Table}
use Rattle.swift_core.specs.declared.ty.Ty.{Ty}
use Rattle.swift_core.specs.Values.{HasValue}
use Rattle.value_fits.specs.Answers.{AnswersWith}
use Rattle.value_fits.specs.Fields.{Standing}
use Rattle.value_fits.specs.Reached.{HopsFit, part_fits, with_part_fits}

-- the type of a slot that has one, by the path of its view and its number
abbrev pub SlotTypes : Type 0
SlotTypes = List Step → ℕ → Option Ty

-- the slot at the path holds a value of the type
pub record SlotHas (table : Table) (cells : CellMap) (path : List Step) (slot : ℕ) (t : Ty) : Type 0 where
  pub slots : List Value
  pub held : fin.get cells path ≡ Some slots
  pub value : Value
  pub there : slice_get slots slot ≡ Some value
  pub typed : HasValue table t value

-- each slot that has a type holds a value of it
abbrev pub CellsFit : Table → SlotTypes → CellMap → Type 0
CellsFit table types cells = (path : List Step) (slot : ℕ) (t : Ty) → types path slot ≡ Some t → SlotHas table cells path slot t

-- the value at a place has a type
pub data PlaceFits (table : Table) (types : SlotTypes) : Place → Ty → Type 0 where
  place_fits : {place : Place} {t u : Ty} → types place.path place.slot ≡ Some t → HopsFit table t place.hops u → PlaceFits table types place u

-- What is read at such a place has the type, or an index is out of range.
abbrev pub CellsRead : Type 0
CellsRead = (table : Table) → Standing table → (types : SlotTypes) (cells : CellMap) (place : Place) (u : Ty) → CellsFit table types cells → PlaceFits table types place u
    → AnswersWith (HasValue table u) (value_at cells place)

pub cells_read : CellsRead
cells_read table standing types cells place u fits (PlaceFits.place_fits {t = t} e hops) =
    let s = fits place.path place.slot t e in
    let here = ap (option_and_then (part_at place.hops)) (ap (option_and_then (λ (slots : List Value). slice_get slots place.slot)) s.held ∙ s.there) in
    subst (AnswersWith (HasValue table u)) (sym here) (part_fits table standing t u place.hops s.value hops s.typed)

-- Once a value of the type is written there, each slot still has its type.
abbrev pub CellsWritten : Type 0
CellsWritten = (table : Table) → Standing table → (types : SlotTypes) (cells : CellMap) (place : Place) (u : Ty) (new : Value) → CellsFit table types cells → PlaceFits table types place u → HasValue table u new
    → CellsFit table types (written cells place new)

-- the elements of a list in which one was replaced
put_among : {X : Type 0} (xs : List X) (i k : ℕ) (new old : X) → slice_get xs k ≡ Some old
    → ((k ≡ i) × (slice_get (slice_set xs i new) k ≡ Some new)) ⊎ (slice_get (slice_set xs i new) k ≡ Some old)
put_among [] i k new old e = cc
put_among (x ∷ xs) zero zero new old e = inl (refl, refl)
put_among (x ∷ xs) zero (suc k) new old e = inr e
put_among (x ∷ xs) (suc i) zero new old e = inr e
put_among (x ∷ xs) (suc i) (suc k) new old e = elim (put_among xs i k new old e) [ inl p ↦ inl (ap suc p.0, p.1) | inr p ↦ inr p ]

module _ (table : Table) (types : SlotTypes) (cells : CellMap) (place : Place) (new : Value) (t : Ty) (typed : types place.path place.slot ≡ Some t) (s : SlotHas table cells place.path place.slot t) (fits : CellsFit table types cells)
    (whole_fits : HasValue table t (with_part place.hops new s.value)) where
  -- the slots of the path afterwards
  slots_after : fin.get (written cells place new) place.path ≡ Some (slots_with place new s.slots s.value)
  slots_after =
      ap (λ (m : CellMap). fin.get m place.path) (written_is cells place new s.value (record { slots = s.slots; held = s.held; there = s.there }))
      ∙ get-insert path_cmp_total cells place.path (slots_with place new s.slots s.value) place.path
      ∙ ap (λ (b : Bool). cond b (Some (slots_with place new s.slots s.value)) (fin.get cells place.path)) ((same_path_decides place.path place.path).1 refl)

  -- a slot of that path
  of_the_path : (slot : ℕ) (k : Ty) → types place.path slot ≡ Some k → SlotHas table (written cells place new) place.path slot k
  of_the_path slot k e =
      let old = fits place.path slot k e in
      let same_slots : old.slots ≡ s.slots = (let both : Some old.slots ≡ Some s.slots = sym old.held ∙ s.held in cc) in
      let among = put_among s.slots place.slot slot (with_part place.hops new s.value) old.value (ap (λ (xs : List Value). slice_get xs slot) (sym same_slots) ∙ old.there) in
      elim among [
        | inl p ↦
            let same_type : t ≡ k = (let both : Some t ≡ Some k = sym typed ∙ ap (types place.path) (sym p.0) ∙ e in cc) in
            record { slots = slots_with place new s.slots s.value; held = slots_after; value = with_part place.hops new s.value; there = p.1; typed = subst (λ (x : Ty). HasValue table x (with_part place.hops new s.value)) same_type whole_fits }
        | inr p ↦ record { slots = slots_with place new s.slots s.value; held = slots_after; value = old.value; there = p; typed = old.typed }
      ]

  at_each_path : (path : List Step) (slot : ℕ) (k : Ty) → types path slot ≡ Some k → SlotHas table (written cells place new) path slot k
  at_each_path path slot k e = go (same_path path place.path) refl
    where
      go : (b : Bool) → same_path path place.path ≡ b → SlotHas table (written cells place new) path slot k
      go true is =
          let same : path ≡ place.path = (same_path_decides path place.path).0 is in
          subst (λ (q : List Step). SlotHas table (written cells place new) q slot k) (sym same) (of_the_path slot k (ap (λ (q : List Step). types q slot) (sym same) ∙ e))
      go false apart =
          let old = fits path slot k e in
          record { slots = old.slots; held = get-written cells place new path apart ∙ old.held; value = old.value; there = old.there; typed = old.typed }

pub cells_written : CellsWritten
cells_written table standing types cells place u new fits (PlaceFits.place_fits {t = t} e hops) new_fits =
    let s = fits place.path place.slot t e in
    at_each_path table types cells place new t e s fits (with_part_fits table standing t u place.hops new s.value hops s.typed new_fits)
