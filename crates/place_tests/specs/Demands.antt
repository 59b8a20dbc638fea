-- What is asked of places: that each has a value of a type. There are types of slots that answer all of it exactly where, for
-- each place, one type of its slot fits the cells and all that is asked of this slot.
use Rattle.std.specs.Prelude.{◌≡◌, ◌↔◌, ℕ, zero, suc, ◌==◌, ◌&&◌, Bool, true, false, cond, List, [], ◌∷◌, Option, Some, None, slice_get}
use Rattle.std.proofs.Common.{refl, sym, ap, subst, ◌∙◌}
use Rattle.std.proofs.lemmas.Bool.Decides.{Decides-eqb}
use Rattle.identity_path.specs.declared.place.Place.{Place}
use Rattle.identity_path.specs.declared.step.Step.{Step}
use Rattle.identity_path.specs.Cells.{CellMap}
use Rattle.identity_path.specs.Order.{same_path, same_path_decides}
use Rattle.swift_core.specs.declared.table.Table.{Table}
use Rattle.swift_core.specs.declared.ty.Ty.{Ty}
use Rattle.value_fits.specs.Cells.{SlotTypes, SlotHas, CellsFit, PlaceFits}
use Rattle.value_fits.specs.Reached.{HopsFit}

-- The value at the place is to have the type. Of a slot as a whole the same is asked by a place without hops.
pub record Demand : Type 0 where
  pub place : Place
  pub ty : Ty

-- Below demands are numbered, and some numbers have none.

-- a demand of this slot
pub record OfSlot (path : List Step) (slot : ℕ) (d : Demand) : Type 0 where
  pub of_path : d.place.path ≡ path
  pub of_number : d.place.slot ≡ slot

-- The slot holds a value of the type, and each place in it that something is asked of is reached from this type.
pub record Agrees (table : Table) (cells : CellMap) (ds : List (Option Demand)) (path : List Step) (slot : ℕ) (t : Ty) : Type 0 where
  pub has : SlotHas table cells path slot t
  pub each : (k : ℕ) (d : Demand) → slice_get ds k ≡ Some (Some d) → OfSlot path slot d → HopsFit table t d.place.hops d.ty

-- each slot that something is asked of has such a type
abbrev pub AllAgree : Table → CellMap → List (Option Demand) → Type 0
AllAgree table cells ds = (k : ℕ) (d : Demand) → slice_get ds k ≡ Some (Some d) → (t : Ty) × Agrees table cells ds d.place.path d.place.slot t

-- the types of slots fit the cells and answer all that is asked
pub record Answered (table : Table) (types : SlotTypes) (cells : CellMap) (ds : List (Option Demand)) : Type 0 where
  pub cells_fit : CellsFit table types cells
  pub each : (k : ℕ) (d : Demand) → slice_get ds k ≡ Some (Some d) → PlaceFits table types d.place d.ty

-- Both say the same.
abbrev pub AgreeingIsAnswered : Type 0
AgreeingIsAnswered = (table : Table) (cells : CellMap) (ds : List (Option Demand)) → AllAgree table cells ds ↔ ((types : SlotTypes) × Answered table types cells ds)

-- ---- from types of slots

agree_of : (table : Table) (cells : CellMap) (ds : List (Option Demand)) (types : SlotTypes) → Answered table types cells ds → (place : Place) (u : Ty) → PlaceFits table types place u
    → (t : Ty) × Agrees table cells ds place.path place.slot t
agree_of table cells ds types answered place u (PlaceFits.place_fits {t = t} e hops) = (
  t,
  record {
    has = answered.cells_fit place.path place.slot t e;
    each = λ k d there of_slot. same d (answered.each k d there) of_slot;
  },
)
  where
    same : (d : Demand) → PlaceFits table types d.place d.ty → OfSlot place.path place.slot d → HopsFit table t d.place.hops d.ty
    same d (PlaceFits.place_fits {t = w} is fit) of_slot =
        let both : Some w ≡ Some t = sym is ∙ ap (λ (p : List Step). types p d.place.slot) of_slot.of_path ∙ ap (types place.path) of_slot.of_number ∙ e in
        let one : w ≡ t = cc in
        subst (λ (x : Ty). HopsFit table x d.place.hops d.ty) one fit

-- ---- to types of slots

-- a type for each demand
abbrev Chosen : List (Option Demand) → Type 0
Chosen ds = (k : ℕ) (d : Demand) → slice_get ds k ≡ Some (Some d) → Ty

abbrev is_of : List Step → ℕ → Demand → Bool
is_of path slot d = same_path d.place.path path && (d.place.slot == slot)

-- the type of the first demand of the slot
abbrev types_by : (ds : List (Option Demand)) → Chosen ds → SlotTypes
types_by [] f path slot = None
types_by (None ∷ ds) f path slot = types_by ds (λ k e h. f (suc k) e h) path slot
types_by (Some d ∷ ds) f path slot = cond (is_of path slot d) (Some (f zero d refl)) (types_by ds (λ k e h. f (suc k) e h) path slot)

-- it is the type of a demand of this slot
record Found (ds : List (Option Demand)) (f : Chosen ds) (path : List Step) (slot : ℕ) (t : Ty) : Type 0 where
  at : ℕ
  demand : Demand
  there : slice_get ds at ≡ Some (Some demand)
  of_slot : OfSlot path slot demand
  is : f at demand there ≡ t

both_true : (a b : Bool) → a && b ≡ true → (a ≡ true) × (b ≡ true)
both_true true true e = (refl, refl)
both_true true false e = absurd (cc e)
both_true false b e = absurd (cc e)

of_slot_is : (path : List Step) (slot : ℕ) (d : Demand) → is_of path slot d ≡ true → OfSlot path slot d
of_slot_is path slot d e =
    let both = both_true (same_path d.place.path path) (d.place.slot == slot) e in
    record { of_path = (same_path_decides d.place.path path).0 both.0; of_number = (Decides-eqb d.place.slot slot).0 both.1 }

is_of_slot : (path : List Step) (slot : ℕ) (d : Demand) → OfSlot path slot d → is_of path slot d ≡ true
is_of_slot path slot d h = (λ j. ((same_path_decides d.place.path path).1 h.of_path j) && ((Decides-eqb d.place.slot slot).1 h.of_number j))

found_by : (d : Demand) (ds : List (Option Demand)) (f : Chosen (Some d ∷ ds)) (path : List Step) (slot : ℕ) (t : Ty) (b : Bool) → is_of path slot d ≡ b
    → cond b (Some (f zero d refl)) (types_by ds (λ k e h. f (suc k) e h) path slot) ≡ Some t
    → (types_by ds (λ k e h. f (suc k) e h) path slot ≡ Some t → Found ds (λ k e h. f (suc k) e h) path slot t) → Found (Some d ∷ ds) f path slot t
found_by d ds f path slot t true is e later =
    let same : f zero d refl ≡ t = cc in
    record { at = zero; demand = d; there = refl; of_slot = of_slot_is path slot d is; is = same }
found_by d ds f path slot t false is e later = let r = later e in record { at = suc r.at; demand = r.demand; there = r.there; of_slot = r.of_slot; is = r.is }

found : (ds : List (Option Demand)) (f : Chosen ds) (path : List Step) (slot : ℕ) (t : Ty) → types_by ds f path slot ≡ Some t → Found ds f path slot t
found [] f path slot t e = absurd (cc e)
found (None ∷ ds) f path slot t e =
    let r = found ds (λ k x h. f (suc k) x h) path slot t e in
    record { at = suc r.at; demand = r.demand; there = r.there; of_slot = r.of_slot; is = r.is }
found (Some d ∷ ds) f path slot t e = found_by d ds f path slot t (is_of path slot d) refl e (found ds (λ k x h. f (suc k) x h) path slot t)

-- a slot that something is asked of has a type
some_by : (x : Demand) (ds : List (Option Demand)) (f : Chosen (Some x ∷ ds)) (path : List Step) (slot : ℕ) (b : Bool) → is_of path slot x ≡ b
    → (t : Ty) × (types_by ds (λ k e h. f (suc k) e h) path slot ≡ Some t)
    → (t : Ty) × (cond b (Some (f zero x refl)) (types_by ds (λ k e h. f (suc k) e h) path slot) ≡ Some t)
some_by x ds f path slot true is later = (f zero x refl, refl)
some_by x ds f path slot false is later = later

some_type : (ds : List (Option Demand)) (f : Chosen ds) (path : List Step) (slot k : ℕ) (d : Demand) → slice_get ds k ≡ Some (Some d) → OfSlot path slot d → (t : Ty) × (types_by ds f path slot ≡ Some t)
some_type [] f path slot k d e h = absurd (cc e)
some_type (None ∷ ds) f path slot zero d e h = absurd (cc e)
some_type (None ∷ ds) f path slot (suc k) d e h = some_type ds (λ n y i. f (suc n) y i) path slot k d e h
some_type (Some x ∷ ds) f path slot zero d e h =
    let same : x ≡ d = cc in
    let first : is_of path slot x ≡ true = ap (is_of path slot) same ∙ is_of_slot path slot d h in
    (f zero x refl, ap (λ (b : Bool). cond b (Some (f zero x refl)) (types_by ds (λ n y i. f (suc n) y i) path slot)) first)
some_type (Some x ∷ ds) f path slot (suc k) d e h = some_by x ds f path slot (is_of path slot x) refl (some_type ds (λ n y i. f (suc n) y i) path slot k d e h)

module _ (table : Table) (cells : CellMap) (ds : List (Option Demand)) (agree : AllAgree table cells ds) where
  abbrev chosen : Chosen ds
  chosen k d e = (agree k d e).0

  -- what is known of the type of a slot
  known : (path : List Step) (slot : ℕ) (t : Ty) → types_by ds chosen path slot ≡ Some t → Agrees table cells ds path slot t
  known path slot t e =
      let f = found ds chosen path slot t e in
      subst (λ (x : Ty). Agrees table cells ds path slot x) f.is
      (subst (λ (n : ℕ). Agrees table cells ds path n (chosen f.at f.demand f.there)) f.of_slot.of_number
      (subst (λ (p : List Step). Agrees table cells ds p f.demand.place.slot (chosen f.at f.demand f.there)) f.of_slot.of_path (agree f.at f.demand f.there).1))

  answered_by : Answered table (types_by ds chosen) cells ds
  answered_by = record {
    cells_fit = λ path slot t e. (known path slot t e).has;
    each = λ k d there.
        let own : OfSlot d.place.path d.place.slot d = record { of_path = refl; of_number = refl } in
        let s = some_type ds chosen d.place.path d.place.slot k d there own in
        PlaceFits.place_fits s.1 ((known d.place.path d.place.slot s.0 s.1).each k d there own);
  }

pub agreeing_is_answered : AgreeingIsAnswered
agreeing_is_answered table cells ds = (
  λ agree. (types_by ds (chosen table cells ds agree), answered_by table cells ds agree),
  λ some k d there. agree_of table cells ds some.0 some.1 d.place d.ty (some.1.each k d there),
)
