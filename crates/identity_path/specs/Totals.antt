-- How the weight of all cells changes.
use Rattle.std.specs.Prelude.{◌≡◌, ℕ, ◌+◌, Bool, true, false, Option, Some, None, Result, Ok, List, [], ◌∷◌, length, ◌≤◌, slice_get, option_and_then}
use Rattle.std.specs.List.{sum_by}
use Rattle.std.specs.FinMap as fin
use Rattle.std.specs.FinMap.Entries.{by_order}
use Rattle.std.specs.FinMap.{find, put, entries-insert, get-entries, same_map, get-insert, get-remove, len-entries, len-empty}
use Rattle.std.specs.Ordering.{is_eq, eq_by_cmp}
use Rattle.std.specs.declared.cmp.Ordering.{Ordering}
use Rattle.std.specs.declared.cmp.Ordering.TheVariants.{Less, Equal, Greater}
use Rattle.std.proofs.Common.{refl, sym, ap, ◌∙◌, arith, cond, inl, inr}
use Rattle.std.proofs.lemmas.Bool.{cases_Bool}
use Rattle.std.proofs.lemmas.List.Sums.{sum_by-cons, get_or-le-sum_by, sum-map}
use Rattle.std.proofs.lemmas.Option.{slice_get_within, get_or_from_slice_get}
use Rattle.sv_value.specs.declared.value.Value.{Value}
use Rattle.identity_path.specs.declared.step.Step.{Step}
use Rattle.sv_value.specs.Value.{weight}
use Rattle.sv_value.specs.Hops.{part_at, with_part}
use Rattle.sv_value.specs.declared.hop.Missing.{Missing}
use Rattle.sv_value.specs.HopLaws.{sum-slice_set, slice_get-set_same, part_at-with_part}
use Rattle.identity_path.specs.declared.place.Place.{Place}
use Rattle.identity_path.specs.Cells.{CellMap, cells_weight, total_of, slots_at, slot_at, value_at, slots_with, written, written_in}
use Rattle.identity_path.specs.Order.{path_cmp, path_cmp_total, path_cmp-IsAntisymmetric, same_path, same_path_decides}

module _ {K X : Type 0} (R : K → K → Ordering) (f : K × X → ℕ) (k : K) (v : X) where
  absent_put : (e : K × X) (es put_es : List (K × X)) → sum_by f put_es ≡ sum_by f es + f (k, v) → (r : Ordering) → cond (is_eq r) (Some e.1) None ≡ None →
      sum_by f (by_order r ((k, v) ∷ e ∷ es) ((e.0, v) ∷ es) (e ∷ put_es)) ≡ sum_by f (e ∷ es) + f (k, v)
  absent_put e es put_es more Less none = omega (arith, sum_by-cons f (k, v) (e ∷ es))
  absent_put e es put_es more Equal none = cc
  absent_put e es put_es more Greater none = omega (arith, sum_by-cons f e put_es, sum_by-cons f e es)

  first_absent : (b : Bool) (x : X) (o : Option X) → cond b (Some x) o ≡ None → (cond b (Some x) None ≡ None) × (o ≡ None)
  first_absent true x o e = cc
  first_absent false x o e = (refl, e)

  -- an entry at a new key adds what it counts
  pub sum_by-put : (es : List (K × X)) → find R k es ≡ None → sum_by f (put R k v es) ≡ sum_by f es + f (k, v)
  sum_by-put [] none = refl
  sum_by-put (e ∷ es) none =
      let parts = first_absent (eq_by_cmp R k e.0) e.1 (find R k es) none in
      absent_put e es (put R k v es) (sum_by-put es parts.1) (R k e.0) parts.0

-- cells that enter add their weight
pub total_of-insert_new : (cells : CellMap) (path : List Step) (slots : List Value) → fin.get cells path ≡ None → total_of (fin.insert cells path slots) ≡ total_of cells + cells_weight slots
unfolding total_of
total_of-insert_new cells path slots none =
    ap (sum_by (λ e. cells_weight e.1)) (entries-insert path_cmp_total cells path slots)
    ∙ sum_by-put path_cmp (λ e. cells_weight e.1) path slots (fin.entries cells) (sym (get-entries cells path) ∙ none)

once : {A : Type 0} (b : Bool) (x y z : A) → cond b x (cond b y z) ≡ cond b x z
once true x y z = refl
once false x y z = refl

-- cells taken out and put back
pub insert-remove : (cells : CellMap) (path : List Step) (slots : List Value) → fin.insert (fin.remove cells path) path slots ≡ fin.insert cells path slots
insert-remove cells path slots = same_map path_cmp_total path_cmp-IsAntisymmetric _ _ (λ q.
    get-insert path_cmp_total (fin.remove cells path) path slots q
    ∙ ap (cond (same_path q path) (Some slots)) (get-remove path_cmp_total cells path q)
    ∙ once (same_path q path) (Some slots) None (fin.get cells q)
    ∙ sym (get-insert path_cmp_total cells path slots q))

-- cells that are there, put again
pub insert_same : (cells : CellMap) (path : List Step) (slots : List Value) → fin.get cells path ≡ Some slots → fin.insert cells path slots ≡ cells
insert_same cells path slots there = same_map path_cmp_total path_cmp-IsAntisymmetric _ _ (λ q.
    get-insert path_cmp_total cells path slots q ∙ elim (cases_Bool (same_path q path)) [
      | inl is ↦ ap (λ b. cond b (Some slots) (fin.get cells q)) is ∙ sym there ∙ ap (fin.get cells) (sym ((same_path_decides q path).0 is))
      | inr not ↦ ap (λ b. cond b (Some slots) (fin.get cells q)) not
    ])

pub get-remove_same : (cells : CellMap) (path : List Step) → fin.get (fin.remove cells path) path ≡ None
get-remove_same cells path = get-remove path_cmp_total cells path path ∙ ap (λ b. cond b None (fin.get cells path)) ((same_path_decides path path).1 refl)

-- cells that leave take their weight
pub total_of-remove : (cells : CellMap) (path : List Step) (slots : List Value) → fin.get cells path ≡ Some slots → total_of (fin.remove cells path) + cells_weight slots ≡ total_of cells
total_of-remove cells path slots there =
    sym (total_of-insert_new (fin.remove cells path) path slots (get-remove_same cells path))
    ∙ ap total_of (insert-remove cells path slots ∙ insert_same cells path slots there)

-- cells that are replaced
pub total_of-insert_held : (cells : CellMap) (path : List Step) (old new : List Value) → fin.get cells path ≡ Some old → total_of (fin.insert cells path new) + cells_weight old ≡ total_of cells + cells_weight new
total_of-insert_held cells path old new there =
    let out = total_of-remove cells path old there in
    let in_again = total_of-insert_new (fin.remove cells path) path new (get-remove_same cells path) in
    let same = ap total_of (insert-remove cells path new) in
    omega arith

no_sum : {X : Type 0} (f : X → ℕ) (xs : List X) → length xs ≡ 0 → sum_by f xs ≡ 0
no_sum f [] e = refl
no_sum f (x ∷ xs) e = absurd (omega arith)

-- no cells weigh nothing
pub total_of-empty : total_of fin.empty ≡ 0
unfolding total_of
total_of-empty = no_sum (λ e. cells_weight e.1) (fin.entries fin.empty) (sym (len-entries {R = path_cmp} fin.empty) ∙ len-empty path_cmp (List Value))

-- what a place's slot is found through
pub record Found (cells : CellMap) (place : Place) (whole : Value) : Type 0 where
  pub slots : List Value
  pub held : fin.get cells place.path ≡ Some slots
  pub there : slice_get slots place.slot ≡ Some whole

pub found_from : (cells : CellMap) (place : Place) (whole : Value) → slot_at cells place ≡ Some whole → Found cells place whole
found_from cells place whole e = by (fin.get cells place.path) refl e
  where
    by : (o : Option (List Value)) → fin.get cells place.path ≡ o → option_and_then (λ slots. slice_get slots place.slot) o ≡ Some whole → Found cells place whole
    by None h f = cc
    by (Some slots) h f = record { slots = slots; held = h; there = f }

-- a slot weighs no more than all cells
pub slot-total_of : (cells : CellMap) (place : Place) (whole : Value) → slot_at cells place ≡ Some whole → weight whole ≤ total_of cells
slot-total_of cells place whole e =
    let found = found_from cells place whole e in
    let rest = total_of-remove cells place.path found.slots found.held in
    let among = get_or-le-sum_by weight found.slots place.slot whole (slice_get_within found.slots place.slot whole found.there) in
    omega (arith, sum-map weight found.slots, ap weight (get_or_from_slice_get found.slots place.slot whole whole found.there))

pub written_is : (cells : CellMap) (place : Place) (new whole : Value) (found : Found cells place whole) → written cells place new ≡ fin.insert cells place.path (slots_with place new found.slots whole)
written_is cells place new whole found =
    ap (λ o. written_in cells place new o (option_and_then (λ slots. slice_get slots place.slot) o)) found.held ∙ ap (written_in cells place new (Some found.slots)) found.there

-- a write takes the slot's weight away and adds its new one
pub total_of-written : (cells : CellMap) (place : Place) (new whole : Value) → slot_at cells place ≡ Some whole → total_of (written cells place new) + weight whole ≡ total_of cells + weight (with_part place.hops new whole)
total_of-written cells place new whole e =
    let found = found_from cells place whole e in
    let put = sum-slice_set found.slots place.slot whole (with_part place.hops new whole) found.there in
    let held = total_of-insert_held cells place.path found.slots (slots_with place new found.slots whole) found.held in
    omega (arith, ap total_of (written_is cells place new whole found))

-- what a place's value is found through
pub found_value : (cells : CellMap) (place : Place) (r : Result Value Missing) → value_at cells place ≡ Some r → (whole : Value) × (slot_at cells place ≡ Some whole) × (part_at place.hops whole ≡ Some r)
found_value cells place r e = by (slot_at cells place) refl e
  where
    by : (o : Option Value) → slot_at cells place ≡ o → option_and_then (part_at place.hops) o ≡ Some r → (whole : Value) × (slot_at cells place ≡ Some whole) × (part_at place.hops whole ≡ Some r)
    by None h f = cc
    by (Some whole) h f = (whole, h, f)

-- what was written stands at its place
pub value_at-written : (cells : CellMap) (place : Place) (new part : Value) → value_at cells place ≡ Some (Ok part) → value_at (written cells place new) place ≡ Some (Ok new)
value_at-written cells place new part e =
    let value = found_value cells place (Ok part) e in
    let whole = value.0 in
    let found = found_from cells place whole value.1 in
    let at = fin.get (fin.insert cells place.path (slots_with place new found.slots whole)) place.path in
    let here : at ≡ Some (slots_with place new found.slots whole) = get-insert path_cmp_total cells place.path (slots_with place new found.slots whole) place.path
    ∙ ap (λ b. cond b (Some (slots_with place new found.slots whole)) (fin.get cells place.path)) ((same_path_decides place.path place.path).1 refl) in
    ap (λ m. value_at m place) (written_is cells place new whole found)
    ∙ ap (λ o. option_and_then (part_at place.hops) (option_and_then (λ slots. slice_get slots place.slot) o)) here
    ∙ ap (option_and_then (part_at place.hops)) (slice_get-set_same found.slots place.slot (with_part place.hops new whole) (slice_get_within found.slots place.slot whole found.there))
    ∙ part_at-with_part place.hops new whole part value.2

-- and nothing changes at other paths
pub get-written : (cells : CellMap) (place : Place) (new : Value) (path : List Step) → same_path path place.path ≡ false → fin.get (written cells place new) path ≡ fin.get cells path
get-written cells place new path apart = by (slots_at cells place) (slot_at cells place)
  where
    by : (o : Option (List Value)) (w : Option Value) → fin.get (written_in cells place new o w) path ≡ fin.get cells path
    by None w = refl
    by (Some slots) None = refl
    by (Some slots) (Some whole) = get-insert path_cmp_total cells place.path (slots_with place new slots whole) path ∙ ap (λ b. cond b (Some (slots_with place new slots whole)) (fin.get cells path)) apart
