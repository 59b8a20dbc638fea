-- What cells hold after each change, at the path that changed and at every other one; when two maps of cells are equal; and
-- the list of the paths that are held.
use Rattle.std.specs.Prelude.{◌≡◌, ◌≢◌, true, false, Some, None, Result, List, slice_get, slice_set, option_and_then}
use Rattle.std.specs.FinMap as fin
use Rattle.std.specs.FinMap.{same_map, get-insert, get-remove, contains_key-keys}
use Rattle.std.specs.List.{list_any}
use Rattle.std.specs.Option.{is_some}
use Rattle.std.proofs.Common.{refl, ap, ◌∙◌, cond, inl, inr}
use Rattle.std.proofs.lemmas.Bool.{cases_Bool}
use Rattle.sv_value.specs.declared.value.Value.{Value}
use Rattle.sv_value.specs.declared.hop.Missing.{Missing}
use Rattle.sv_value.specs.Hops.{part_at, with_part}
use Rattle.identity_path.specs.declared.step.Step.{Step}
use Rattle.identity_path.specs.declared.place.Place.{Place}
use Rattle.identity_path.specs.Cells.{CellMap, slots_with, written, value_at}
use Rattle.identity_path.specs.Order.{path_cmp_total, path_cmp-IsAntisymmetric, same_path, same_path_decides}
use Rattle.identity_path.specs.Totals.{written_is, get-written}

-- a path is the same as itself
pub same_path_refl : (path : List Step) → same_path path path ≡ true
same_path_refl path = (same_path_decides path path).1 refl

-- and paths that differ are told apart
pub same_path_apart : (p q : List Step) → p ≢ q → same_path p q ≡ false
same_path_apart p q apart = elim (cases_Bool (same_path p q)) [ inl is ↦ absurd (apart ((same_path_decides p q).0 is)) | inr not ↦ not ]

-- cells that entered are held at their path
pub get-entered : (cells : CellMap) (path : List Step) (slots : List Value) → fin.get (fin.insert cells path slots) path ≡ Some slots
get-entered cells path slots = get-insert path_cmp_total cells path slots path ∙ ap (λ b. cond b (Some slots) (fin.get cells path)) (same_path_refl path)

-- and other paths keep theirs
pub get-entered_other : (cells : CellMap) (path : List Step) (slots : List Value) (q : List Step) → q ≢ path → fin.get (fin.insert cells path slots) q ≡ fin.get cells q
get-entered_other cells path slots q apart = get-insert path_cmp_total cells path slots q ∙ ap (λ b. cond b (Some slots) (fin.get cells q)) (same_path_apart q path apart)

-- a path that left holds nothing
pub get-left : (cells : CellMap) (path : List Step) → fin.get (fin.remove cells path) path ≡ None
get-left cells path = get-remove path_cmp_total cells path path ∙ ap (λ b. cond b None (fin.get cells path)) (same_path_refl path)

-- and other paths keep their cells
pub get-left_other : (cells : CellMap) (path q : List Step) → q ≢ path → fin.get (fin.remove cells path) q ≡ fin.get cells q
get-left_other cells path q apart = get-remove path_cmp_total cells path q ∙ ap (λ b. cond b None (fin.get cells q)) (same_path_apart q path apart)

-- a write puts the new value into the slot of its place
pub get-written_same : (cells : CellMap) (place : Place) (new whole : Value) (slots : List Value) → fin.get cells place.path ≡ Some slots → slice_get slots place.slot ≡ Some whole →
    fin.get (written cells place new) place.path ≡ Some (slice_set slots place.slot (with_part place.hops new whole))
get-written_same cells place new whole slots held there =
    ap (λ m. fin.get m place.path) (written_is cells place new whole (record { slots = slots; held = held; there = there }))
    ∙ get-entered cells place.path (slots_with place new slots whole)

-- and leaves other paths alone
pub get-written_other : (cells : CellMap) (place : Place) (new : Value) (q : List Step) → q ≢ place.path → fin.get (written cells place new) q ≡ fin.get cells q
get-written_other cells place new q apart = get-written cells place new q (same_path_apart q place.path apart)

-- where a place leads whose path holds these slots
pub value_at_is : (cells : CellMap) (place : Place) (slots : List Value) (whole : Value) (r : Result Value Missing) → fin.get cells place.path ≡ Some slots → slice_get slots place.slot ≡ Some whole →
    part_at place.hops whole ≡ Some r → value_at cells place ≡ Some r
value_at_is cells place slots whole r held there fits =
    ap (λ o. option_and_then (part_at place.hops) (option_and_then (λ xs. slice_get xs place.slot) o)) held ∙ ap (option_and_then (part_at place.hops)) there ∙ fits

-- two maps that hold the same at every path are one
pub cells_equal : (m n : CellMap) → ((q : List Step) → fin.get m q ≡ fin.get n q) → m ≡ n
cells_equal m n is = same_map path_cmp_total path_cmp-IsAntisymmetric m n is

-- the paths that are held
abbrev pub paths_of : CellMap → List (List Step)
paths_of cells = fin.keys cells

-- and they are exactly those with cells
pub is_held : (cells : CellMap) (q : List Step) → is_some (fin.get cells q) ≡ list_any (same_path q) (paths_of cells)
is_held cells q = contains_key-keys cells q
