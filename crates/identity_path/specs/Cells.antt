-- Cells: a finite map from paths to lists of values, with the values at places in it.
use Rattle.std.specs.Prelude.{ℕ, min, Option, Some, None, Result, Ok, Err, List, sum, map, slice_get, slice_set, nat_lt, if◌then◌else◌, option_and_then}
use Rattle.std.specs.List.{sum_by}
use Rattle.std.specs.FinMap as fin
use Rattle.std.specs.FinMap.{FinMap}
use Rattle.sv_value.specs.declared.value.Value.{Value}
use Rattle.sv_value.specs.declared.hop.Missing.{Missing}
use Rattle.sv_value.specs.Value.{weight}
use Rattle.sv_value.specs.Hops.{part_at, with_part}
use Rattle.identity_path.specs.declared.place.Place.{Place}
use Rattle.identity_path.specs.declared.place.WriteStop.{WriteStop}
use Rattle.identity_path.specs.declared.place.WriteStop.TheVariants as stop
use Rattle.identity_path.specs.Order.{path_cmp}

-- the slots of each path
abbrev pub CellMap : Type 0
CellMap = FinMap path_cmp (List Value)

-- the greatest weight of a value, and of all cells together
abbrev pub max_weight : ℕ
max_weight = 65536

abbrev pub max_total : ℕ
max_total = 4000000

-- the weight of the slots of one path
abbrev pub cells_weight : List Value → ℕ
cells_weight slots = sum (map weight slots)

-- the weight of all cells
unfoldable pub total_of : CellMap → ℕ
total_of cells = sum_by (λ e. cells_weight e.1) (fin.entries cells)

-- the slots at the path of a place
abbrev pub slots_at : CellMap → Place → Option (List Value)
slots_at cells place = fin.get cells place.path

-- the whole value of the slot of a place
abbrev pub slot_at : CellMap → Place → Option Value
slot_at cells place = option_and_then (λ slots. slice_get slots place.slot) (slots_at cells place)

-- the value at a place, or the first index that is out of range; nothing where path or slot is not held or the hops do not fit
abbrev pub value_at : CellMap → Place → Option (Result Value Missing)
value_at cells place = option_and_then (part_at place.hops) (slot_at cells place)

-- the slots with a new value at the place
abbrev pub slots_with : Place → Value → List Value → Value → List Value
slots_with place new slots whole = slice_set slots place.slot (with_part place.hops new whole)

-- the cells with a new value at the place, where the place's slots and slot are these
abbrev pub written_in : CellMap → Place → Value → Option (List Value) → Option Value → CellMap
written_in cells place new (Some slots) (Some whole) = fin.insert cells place.path (slots_with place new slots whole)
written_in cells place new slots whole = cells

-- the cells with a new value at the place
abbrev pub written : CellMap → Place → Value → CellMap
written cells place new = written_in cells place new (slots_at cells place) (slot_at cells place)

-- the answer of a write that would give the slot this weight, and all cells this total
abbrev pub weighed : ℕ → ℕ → Result (Unit {0}) WriteStop
weighed slot total =
    if nat_lt max_weight slot then Err (stop.Heavy (min slot 18446744073709551615)) else
    (if nat_lt max_total total then Err (stop.Heavy total) else Ok tt)

-- what the slot's whole value would weigh with a new value at the place
abbrev pub weight_with : Place → Value → Option Value → ℕ
weight_with place new None = 0
weight_with place new (Some whole) = weight (with_part place.hops new whole)

-- the first index that is out of range comes before any weight
abbrev pub answer_at : Option (Result Value Missing) → Result (Unit {0}) WriteStop → Result (Unit {0}) WriteStop
answer_at (Some (Err missing)) weighed_answer = Err (stop.Missing missing.index)
answer_at value weighed_answer = weighed_answer

-- what a write answers
abbrev pub write_answer : CellMap → Place → Value → Result (Unit {0}) WriteStop
write_answer cells place new =
    answer_at (value_at cells place) (weighed (weight_with place new (slot_at cells place)) (total_of (written cells place new)))
