-- The entries of the table as a finite map, and what a write answers.
use Rattle.std.proofs.Common.{◌≡◌, ℕ, ◌≤◌, ◌<◌, List, [], ◌∷◌, Some, None, refl, sym, ap, ◌∙◌, cond, Result, Ok, Err, slice_get, arith}
use Rattle.std.specs.FinMap as fin
use Rattle.std.specs.FinMap.{find, get-from_entries, same_map, get-insert, get-remove}
use Rattle.std.specs.Map.{lookup}
use Rattle.sv_value.specs.declared.value.Value.{Value}
use Rattle.identity_path.specs.declared.step.Step.{Step}
use Rattle.identity_path.specs.Order.{path_cmp, path_cmp_total, path_cmp-IsAntisymmetric, same_path}
use Rattle.std.proofs.lemmas.Cmp.{eq_by_cmp_equiv}
use Rattle.std.proofs.lemmas.Bool.Decides.{nat_tests}
use Rattle.std.specs.Option.{option_and_then}
use Rattle.sv_value.specs.Value.{weight}
use Rattle.identity_path.specs.declared.place.WriteStop.TheVariants as stop
use Rattle.identity_path.specs.Cells.{CellMap, value_at, slot_at, weight_with, answer_at, weighed, written, write_answer, total_of, max_total, max_weight}
use Rattle.identity_path.specs.Totals.{found_value, found_from}
use Rattle.identity_path.specs.declared.place.Place.{Place}
use Rattle.sv_value.specs.declared.hop.Missing.{Missing}
use Rattle.sv_value.specs.Hops.{part_at, with_part}

abbrev pub Entries : Type 0
Entries = List (List Step × List Value)

find_lookup : (q : List Step) (es : Entries) → find path_cmp q es ≡ lookup (same_path q) es
find_lookup q [] = refl
find_lookup q (e ∷ es) = ap (cond (same_path q e.0) (Some e.1)) (find_lookup q es)

-- a look-up in the map is one in the table
pub get_held : (es : Entries) (q : List Step) → fin.get (fin.from_entries {R = path_cmp} es) q ≡ lookup (same_path q) es
get_held es q = get-from_entries path_cmp_total es q ∙ find_lookup q es

abbrev pub map_of : Entries → CellMap
map_of es = fin.from_entries {R = path_cmp} es

pub same_path_symm : (p q : List Step) → same_path p q ≡ same_path q p
same_path_symm = (eq_by_cmp_equiv path_cmp_total).symm

-- a table that answers anew at one path
pub map_of-put : (old new : Entries) (path : List Step) (slots : List Value) → ((q : List Step) → lookup (same_path q) new ≡ cond (same_path path q) (Some slots) (lookup (same_path q) old)) →
    map_of new ≡ fin.insert (map_of old) path slots
map_of-put old new path slots is = same_map path_cmp_total path_cmp-IsAntisymmetric _ _ (λ q.
    get_held new q ∙ is q ∙ ap (λ b. cond b (Some slots) (lookup (same_path q) old)) (same_path_symm path q)
    ∙ ap (cond (same_path q path) (Some slots)) (sym (get_held old q))
    ∙ sym (get-insert path_cmp_total (map_of old) path slots q))

-- a table that answers nothing at one path
pub map_of-removed : (old new : Entries) (path : List Step) → ((q : List Step) → lookup (same_path q) new ≡ cond (same_path path q) None (lookup (same_path q) old)) →
    map_of new ≡ fin.remove (map_of old) path
map_of-removed old new path is = same_map path_cmp_total path_cmp-IsAntisymmetric _ _ (λ q.
    get_held new q ∙ is q ∙ ap (λ b. cond b None (lookup (same_path q) old)) (same_path_symm path q)
    ∙ ap (cond (same_path q path) None) (sym (get_held old q))
    ∙ sym (get-remove path_cmp_total (map_of old) path q))

-- the slots of a place that has a value
pub record Slot (place : Place) (slots : List Value) (r : Result Value Missing) : Type 0 where
  pub whole : Value
  pub there : slice_get slots place.slot ≡ Some whole
  pub fits : part_at place.hops whole ≡ Some r

pub slot_from : (cells : CellMap) (place : Place) (slots : List Value) (r : Result Value Missing) → fin.get cells place.path ≡ Some slots → value_at cells place ≡ Some r → Slot place slots r
slot_from cells place slots r held e =
    let found = found_value cells place r e in
    let f = found_from cells place found.0 found.1 in
    let same : f.slots ≡ slots = let h = f.held in cc in
    record { whole = found.0; there = ap (λ xs. slice_get xs place.slot) (sym same) ∙ f.there; fits = found.2 }

pub held_from : (es : Entries) (cells : CellMap) (path : List Step) (slots : List Value) → map_of es ≡ cells → Some slots ≡ lookup (same_path path) es → fin.get cells path ≡ Some slots
held_from es cells path slots is e = ap (λ m. fin.get m path) (sym is) ∙ get_held es path ∙ sym e

-- the answer of a write at a place whose part is there
answer_found : (cells : CellMap) (place : Place) (new whole part : Value) → slot_at cells place ≡ Some whole → part_at place.hops whole ≡ Some (Ok part) →
    write_answer cells place new ≡ weighed (weight (with_part place.hops new whole)) (total_of (written cells place new))
answer_found cells place new whole part at fits =
    (λ i. answer_at (option_and_then (part_at place.hops) (at i)) (weighed (weight_with place new (at i)) (total_of (written cells place new))))
    ∙ ap (λ r. answer_at r (weighed (weight (with_part place.hops new whole)) (total_of (written cells place new)))) fits

weighed_heavy : (slot total : ℕ) → slot ≤ max_weight → max_total < total → weighed slot total ≡ Err (stop.Heavy total)
weighed_heavy slot total light heavy = grind (arith, nat_tests)

weighed_light : (slot total : ℕ) → slot ≤ max_weight → total ≤ max_total → weighed slot total ≡ Ok tt
weighed_light slot total light within = grind (arith, nat_tests)

-- a write that makes all cells too heavy
pub answer_heavy : (cells : CellMap) (place : Place) (new whole part : Value) (total : ℕ) → slot_at cells place ≡ Some whole → part_at place.hops whole ≡ Some (Ok part) →
    weight (with_part place.hops new whole) ≤ max_weight → total_of (written cells place new) ≡ total → max_total < total → write_answer cells place new ≡ Err (stop.Heavy total)
answer_heavy cells place new whole part total at fits light is heavy =
    answer_found cells place new whole part at fits ∙ ap (weighed (weight (with_part place.hops new whole))) is ∙ weighed_heavy _ total light heavy

-- a write that goes through
pub answer_light : (cells : CellMap) (place : Place) (new whole part : Value) (total : ℕ) → slot_at cells place ≡ Some whole → part_at place.hops whole ≡ Some (Ok part) →
    weight (with_part place.hops new whole) ≤ max_weight → total_of (written cells place new) ≡ total → total ≤ max_total → write_answer cells place new ≡ Ok tt
answer_light cells place new whole part total at fits light is within =
    answer_found cells place new whole part at fits ∙ ap (weighed (weight (with_part place.hops new whole))) is ∙ weighed_light _ total light within
