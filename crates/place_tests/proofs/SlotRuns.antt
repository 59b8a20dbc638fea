-- The tests of slots, one number at a time.
use Rattle.std.specs.Prelude.{◌↔◌, IsTrue}
use Rattle.std.specs.FinMap as fin
use Rattle.std.proofs.Common.{◌≡◌, ℕ, zero, suc, ◌+◌, ◌<◌, ◌≤◌, ◌⊎◌, inl, inr, Bool, true, false, List, length, Option, Some, None, slice_get, refl, sym, ap, subst, ◌∙◌, arith}
use Rattle.std.proofs.lemmas.Option.{slice_get_within}
use Rattle.sv_value.specs.declared.value.Value.{Value}
use Rattle.identity_path.specs.Cells.{CellMap}
use Rattle.identity_path.specs.declared.step.Step.{Step}
use Rattle.swift_core.specs.declared.table.Table.{Table}
use Rattle.swift_core.specs.declared.ty.Ty.{Ty}
use Rattle.swift_core.specs.declared.ty.Ty.TheVariants as ty
use Rattle.swift_core.specs.Values.{HasValue}
use Rattle.value_fits.specs.Cells.{SlotHas}
use Rattle.value_fits.specs.Reached.{HopsFit}
use Rattle.place_tests.specs.Demands.{Demand, Agrees, AllAgree, agreeing_is_answered}
use Rattle.place_tests.specs.Nested.{Agreed, AgreedBefore, Known, NoneDeclaredBefore, Reached, ReachedBefore, SomeAnswer, SomeDeclared}
use Rattle.place_tests.specs.Walks.{IsCandidate, candidates_are_all, leading, nest, walk, walks_are_right}

-- ---- the value of a slot

pub slot_is : (table : Table) (cells : CellMap) (path : List Step) (slot : ℕ) (t : Ty) (slots : List Value) (v : Value) (r : Bool) → fin.get cells path ≡ Some slots → slice_get slots slot ≡ Some v → IsTrue r ↔ HasValue table t v
    → IsTrue r ↔ SlotHas table cells path slot t
slot_is table cells path slot t slots v r held there h = (
  λ is. record { slots = slots; held = held; value = v; there = there; typed = h.0 is },
  λ s.
      let lists : Some s.slots ≡ Some slots = sym s.held ∙ held in
      let same_slots : s.slots ≡ slots = cc in
      let values : Some s.value ≡ Some v = sym s.there ∙ ap (λ (xs : List Value). slice_get xs slot) same_slots ∙ there in
      let same : s.value ≡ v = cc in
      h.1 (subst (HasValue table t) same s.typed),
)

pub no_path : (table : Table) (cells : CellMap) (path : List Step) (slot : ℕ) (t : Ty) → fin.get cells path ≡ None → IsTrue false ↔ SlotHas table cells path slot t
no_path table cells path slot t e = (λ is. absurd (cc is), λ s. let clash : Some s.slots ≡ None = sym s.held ∙ e in absurd (cc clash))

pub no_slot : (table : Table) (cells : CellMap) (path : List Step) (slot : ℕ) (t : Ty) (slots : List Value) → fin.get cells path ≡ Some slots → slice_get slots slot ≡ None → IsTrue false ↔ SlotHas table cells path slot t
no_slot table cells path slot t slots held e = (
  λ is. absurd (cc is),
  λ s.
      let lists : Some s.slots ≡ Some slots = sym s.held ∙ held in
      let same : s.slots ≡ slots = cc in
      let clash : Some s.value ≡ None = sym s.there ∙ ap (λ (xs : List Value). slice_get xs slot) same ∙ e in
      absurd (cc clash),
)

-- ---- what is asked at one number

only : (o : Option (Option Demand)) (x d : Demand) → o ≡ Some (Some x) → o ≡ Some (Some d) → x ≡ d
only o x d e f = let both : Some (Some x) ≡ Some (Some d) = sym e ∙ f in cc

pub asks_nothing : (table : Table) (path : List Step) (slot : ℕ) (t : Ty) (o : Option (Option Demand)) → Some None ≡ o → IsTrue true ↔ Reached table path slot t o
asks_nothing table path slot t o e = (λ is. record { reached = λ d f here. (let clash : Some None ≡ Some (Some d) = e ∙ f in absurd (cc clash)) }, λ k. refl)

pub asks_other_slot : (table : Table) (path : List Step) (slot : ℕ) (t : Ty) (o : Option (Option Demand)) (x : Demand) → Some (Some x) ≡ o → (x.place.slot ≡ slot → ⊥) → IsTrue true ↔ Reached table path slot t o
asks_other_slot table path slot t o x e differ =
    (λ is. record { reached = λ d f here. absurd (differ (ap (λ (y : Demand). y.place.slot) (only o x d (sym e) f) ∙ here.of_number)) }, λ k. refl)

pub asks_other_path : (table : Table) (path : List Step) (slot : ℕ) (t : Ty) (o : Option (Option Demand)) (x : Demand) (b : Bool) → Some (Some x) ≡ o → IsTrue b ↔ (x.place.path ≡ path) → b ≡ false
    → IsTrue true ↔ Reached table path slot t o
asks_other_path table path slot t o x b e same fails = (
  λ is. record {
    reached = λ d f here. (
        let yes : b ≡ true = same.1 (ap (λ (y : Demand). y.place.path) (only o x d (sym e) f) ∙ here.of_path) in
        let clash : true ≡ false = sym yes ∙ fails in
        absurd (cc clash));
  },
  λ k. refl,
)

pub asks_here : (table : Table) (path : List Step) (slot : ℕ) (t : Ty) (o : Option (Option Demand)) (x : Demand) (b r : Bool) → Known table → Some (Some x) ≡ o → x.place.slot ≡ slot → IsTrue b ↔ (x.place.path ≡ path) → b ≡ true
    → IsTrue r ↔ (walk table t x.place.hops ≡ Some x.ty) → IsTrue r ↔ Reached table path slot t o
asks_here table path slot t o x b r known e of_slot same is_path h =
    let law = walks_are_right table known.standing t x.ty x.place.hops in (
      λ is. record { reached = λ d f here. subst (λ (y : Demand). HopsFit table t y.place.hops y.ty) (only o x d (sym e) f) (law.1 (h.0 is)) },
      λ k. h.1 (law.0 (k.reached x (sym e) (record { of_path = same.0 is_path; of_number = of_slot }))),
    )

-- ---- all that is asked of one slot

less_or_last : (k n : ℕ) → k < n + 1 → (k < n) ⊎ (k ≡ n)
less_or_last zero zero h = inr refl
less_or_last zero (suc n) h = inl (omega arith)
less_or_last (suc k) zero h = absurd (omega (arith, h))
less_or_last (suc k) (suc n) h = elim (less_or_last k n (omega (arith, h))) [ inl x ↦ inl (omega (arith, x)) | inr x ↦ inr (ap suc x) ]

module _ (table : Table) (cells : CellMap) (ds : List (Option Demand)) (path : List Step) (slot : ℕ) where
  pub fits_start : (t : Ty) → ReachedBefore table ds path slot t 0
  fits_start t = record { each = λ k h. absurd (omega (arith, h)) }

  pub fits_turn : (t : Ty) (n : ℕ) (r : Bool) → IsTrue r ↔ Reached table path slot t (slice_get ds n) → r ≡ true → ReachedBefore table ds path slot t n → ReachedBefore table ds path slot t (n + 1)
  fits_turn t n r here is before = record {
    each = λ k h. elim (less_or_last k n h) [
      | inl x ↦ before.each k x
      | inr x ↦ subst (λ (j : ℕ). Reached table path slot t (slice_get ds j)) (sym x) (here.0 is)
    ];
  }

  pub not_held : (t : Ty) (r : Bool) → IsTrue r ↔ SlotHas table cells path slot t → r ≡ false → IsTrue false ↔ Agrees table cells ds path slot t
  not_held t r has fails = (λ is. absurd (cc is), λ a. let yes : r ≡ true = has.1 a.has in let clash : true ≡ false = sym yes ∙ fails in absurd (cc clash))

  pub fits_not : (t : Ty) (n : ℕ) (r : Bool) → IsTrue r ↔ Reached table path slot t (slice_get ds n) → r ≡ false → IsTrue false ↔ Agrees table cells ds path slot t
  fits_not t n r here fails = (
    λ is. absurd (cc is),
    λ a.
        let yes : r ≡ true = here.1 (record { reached = a.each n }) in
        let clash : true ≡ false = sym yes ∙ fails in
        absurd (cc clash),
  )

  pub fits_all : (t : Ty) (n : ℕ) (r : Bool) → length ds ≤ n → IsTrue r ↔ SlotHas table cells path slot t → r ≡ true → ReachedBefore table ds path slot t n → IsTrue true ↔ Agrees table cells ds path slot t
  fits_all t n r h has is before = (
    λ x. record {
      has = has.0 is;
      each = λ k d there here. (let within = slice_get_within ds k (Some d) there in (before.each k (omega (arith, within, h))).reached d there here);
    },
    λ a. refl,
  )

  -- ---- a declared type

  pub none_start : (lists : ℕ) → NoneDeclaredBefore table cells ds path slot lists 0
  none_start lists = record { none = λ d h a. absurd (omega (arith, h)) }

  pub none_turn : (lists n m : ℕ) (r : Bool) → m ≡ n → IsTrue r ↔ Agrees table cells ds path slot (nest lists (ty.Named m)) → r ≡ false → NoneDeclaredBefore table cells ds path slot lists n
      → NoneDeclaredBefore table cells ds path slot lists (n + 1)
  none_turn lists n m r same here fails before = record {
    none = λ d h a. elim (less_or_last d n h) [
      | inl x ↦ before.none d x a
      | inr x ↦
          let yes : r ≡ true = here.1 (subst (λ (j : ℕ). Agrees table cells ds path slot (nest lists (ty.Named j))) (x ∙ sym same) a) in
          let clash : true ≡ false = sym yes ∙ fails in
          cc
    ];
  }

  pub none_end : (lists n : ℕ) → length table.declarations ≤ n → NoneDeclaredBefore table cells ds path slot lists n → IsTrue false ↔ SomeDeclared table cells ds path slot lists
  none_end lists n h before = (λ is. absurd (cc is), λ s. absurd (before.none s.number (omega (arith, s.within, h)) s.agrees))

  pub one_found : (lists n m : ℕ) (r : Bool) → m ≡ n → n < length table.declarations → IsTrue r ↔ Agrees table cells ds path slot (nest lists (ty.Named m)) → r ≡ true → IsTrue true ↔ SomeDeclared table cells ds path slot lists
  one_found lists n m r same h here is = (λ x. record { number = m; within = omega (arith, h, same); agrees = here.0 is }, λ s. refl)

-- ---- what is asked at one number has a type of its slot

pub agreed_nothing : (table : Table) (cells : CellMap) (ds : List (Option Demand)) (o : Option (Option Demand)) → Some None ≡ o → IsTrue true ↔ Agreed table cells ds o
agreed_nothing table cells ds o e = (λ is. record { agreed = λ d f. (let clash : Some None ≡ Some (Some d) = e ∙ f in absurd (cc clash)) }, λ k. refl)

-- a type of the slot that some type is
has_type : (table : Table) (cells : CellMap) (ds : List (Option Demand)) (o : Option (Option Demand)) (x : Demand) (t : Ty) → Some (Some x) ≡ o → Agrees table cells ds x.place.path x.place.slot t → Agreed table cells ds o
has_type table cells ds o x t e a =
    record { agreed = λ d f. subst (λ (y : Demand). (u : Ty) × Agrees table cells ds y.place.path y.place.slot u) (only o x d (sym e) f) (t, a) }

pub agreed_itself : (table : Table) (cells : CellMap) (ds : List (Option Demand)) (at lists : ℕ) (x : Demand) (r : Bool) → Some (Some x) ≡ slice_get ds at
    → IsTrue r ↔ Agrees table cells ds x.place.path x.place.slot (nest lists x.ty) → r ≡ true → IsTrue true ↔ Agreed table cells ds (slice_get ds at)
agreed_itself table cells ds at lists x r e here is = (λ y. has_type table cells ds (slice_get ds at) x (nest lists x.ty) e (here.0 is), λ k. refl)

candidate : (table : Table) (cells : CellMap) (ds : List (Option Demand)) (x : Demand) (t : Ty) → Agrees table cells ds x.place.path x.place.slot t → IsCandidate table x.place.hops x.ty t
    → (Agrees table cells ds x.place.path x.place.slot (nest (leading x.place.hops) x.ty)) ⊎ SomeDeclared table cells ds x.place.path x.place.slot (leading x.place.hops)
candidate table cells ds x t a IsCandidate.itself = inl a
candidate table cells ds x t a (IsCandidate.declared {d = d} h) = inr (record { number = d; within = h; agrees = a })

pub agreed_declared : (table : Table) (cells : CellMap) (ds : List (Option Demand)) (at lists : ℕ) (x : Demand) (r s : Bool) → Some (Some x) ≡ slice_get ds at → lists ≡ leading x.place.hops
    → IsTrue r ↔ Agrees table cells ds x.place.path x.place.slot (nest lists x.ty) → r ≡ false → IsTrue s ↔ SomeDeclared table cells ds x.place.path x.place.slot lists
    → IsTrue s ↔ Agreed table cells ds (slice_get ds at)
agreed_declared table cells ds at lists x r s e long here fails there = (
  λ is. let one = there.0 is in has_type table cells ds (slice_get ds at) x (nest lists (ty.Named one.number)) e one.agrees,
  λ k.
      let c = k.agreed x (sym e) in
      let fit : HopsFit table c.0 x.place.hops x.ty = c.1.each at x (sym e) (record { of_path = refl; of_number = refl }) in
      elim (candidate table cells ds x c.0 c.1 (candidates_are_all table c.0 x.ty x.place.hops fit)) [
        | inl a ↦
            let yes : r ≡ true = here.1 (subst (λ (n : ℕ). Agrees table cells ds x.place.path x.place.slot (nest n x.ty)) (sym long) a) in
            let clash : true ≡ false = sym yes ∙ fails in
            absurd (cc clash)
        | inr d ↦ there.1 (subst (λ (n : ℕ). SomeDeclared table cells ds x.place.path x.place.slot n) (sym long) d)
      ],
)

-- ---- all numbers

module _ (table : Table) (cells : CellMap) (ds : List (Option Demand)) where
  pub all_start : AgreedBefore table cells ds 0
  all_start = record { each = λ k h. absurd (omega (arith, h)) }

  pub all_turn : (n : ℕ) (r : Bool) → IsTrue r ↔ Agreed table cells ds (slice_get ds n) → r ≡ true → AgreedBefore table cells ds n → AgreedBefore table cells ds (n + 1)
  all_turn n r here is before = record {
    each = λ k h. elim (less_or_last k n h) [
      | inl x ↦ before.each k x
      | inr x ↦ subst (λ (j : ℕ). Agreed table cells ds (slice_get ds j)) (sym x) (here.0 is)
    ];
  }

  all_of : SomeAnswer table cells ds → AllAgree table cells ds
  all_of (SomeAnswer.some_answer types answered) = (agreeing_is_answered table cells ds).1 (types, answered)

  some_of : AllAgree table cells ds → SomeAnswer table cells ds
  some_of all = let s = (agreeing_is_answered table cells ds).0 all in SomeAnswer.some_answer s.0 s.1

  pub all_not : (n : ℕ) (r : Bool) → IsTrue r ↔ Agreed table cells ds (slice_get ds n) → r ≡ false → IsTrue false ↔ SomeAnswer table cells ds
  all_not n r here fails = (
    λ is. absurd (cc is),
    λ s.
        let yes : r ≡ true = here.1 (record { agreed = all_of s n }) in
        let clash : true ≡ false = sym yes ∙ fails in
        absurd (cc clash),
  )

  pub all_end : (n : ℕ) → length ds ≤ n → AgreedBefore table cells ds n → IsTrue true ↔ SomeAnswer table cells ds
  all_end n h before =
      (λ is. some_of (λ k d there. (let within = slice_get_within ds k (Some d) there in (before.each k (omega (arith, within, h))).agreed d there)), λ s. refl)
