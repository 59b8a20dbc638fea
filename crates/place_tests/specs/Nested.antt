-- What each test of places decides: values under lists, and demands one number at a time.
use Rattle.std.specs.Prelude.{◌≡◌, ℕ, ◌<◌, ◌≤◌, List, length, Option, Some, slice_get}
use Rattle.sv_value.specs.declared.value.Value.{Value}
use Rattle.sv_value.specs.declared.value.Value.TheOpen.{Value-F}
use Rattle.identity_path.specs.Cells.{CellMap}
use Rattle.identity_path.specs.declared.step.Step.{Step}
use Rattle.swift_core.specs.declared.table.Table.{Table}
use Rattle.swift_core.specs.declared.ty.Ty.{Ty}
use Rattle.swift_core.specs.declared.ty.Ty.TheVariants as ty
use Rattle.swift_core.specs.Values.{AllHaveValue}
use Rattle.value_fits.specs.Cells.{SlotTypes}
use Rattle.value_fits.specs.Fields.{Standing}
use Rattle.value_fits.specs.Reached.{HopsFit}
use Rattle.place_tests.specs.Demands.{Demand, OfSlot, Agrees, Answered}
use Rattle.place_tests.specs.Walks.{nest}

-- the value is a list of values of the type
abbrev pub ListHas : Table → Ty → Value-F Value → Type 0
ListHas table t (Value-F.List values) = AllHaveValue table t values
ListHas table t v = ⊥

-- what is asked at a number of a slot is reached from the type
pub record Reached (table : Table) (path : List Step) (slot : ℕ) (t : Ty) (o : Option (Option Demand)) : Type 0 where
  pub reached : (d : Demand) → o ≡ Some (Some d) → OfSlot path slot d → HopsFit table t d.place.hops d.ty

-- what is asked at a number has a type of its slot
pub record Agreed (table : Table) (cells : CellMap) (ds : List (Option Demand)) (o : Option (Option Demand)) : Type 0 where
  pub agreed : (d : Demand) → o ≡ Some (Some d) → (t : Ty) × Agrees table cells ds d.place.path d.place.slot t

-- What is known of the declarations of a program: members stand where they say, and numbers of declarations are small.
pub record Known (table : Table) : Type 0 where
  pub standing : Standing table
  pub few : length table.declarations ≤ 1048576

-- a declared type under so many lists fits the cells and all that is asked of the slot
pub record SomeDeclared (table : Table) (cells : CellMap) (ds : List (Option Demand)) (path : List Step) (slot lists : ℕ) : Type 0 where
  pub number : ℕ
  pub within : number < length table.declarations
  pub agrees : Agrees table cells ds path slot (nest lists (ty.Named number))

-- some types of slots fit the cells and answer all that is asked
pub data SomeAnswer (table : Table) (cells : CellMap) (ds : List (Option Demand)) : Type 0 where
  some_answer : (types : SlotTypes) → Answered table types cells ds → SomeAnswer table cells ds

-- ---- the first numbers

pub record ReachedBefore (table : Table) (ds : List (Option Demand)) (path : List Step) (slot : ℕ) (t : Ty) (n : ℕ) : Type 0 where
  pub each : (k : ℕ) → k < n → Reached table path slot t (slice_get ds k)

pub record NoneDeclaredBefore (table : Table) (cells : CellMap) (ds : List (Option Demand)) (path : List Step) (slot lists n : ℕ) : Type 0 where
  pub none : (d : ℕ) → d < n → Agrees table cells ds path slot (nest lists (ty.Named d)) → ⊥

pub record AgreedBefore (table : Table) (cells : CellMap) (ds : List (Option Demand)) (n : ℕ) : Type 0 where
  pub each : (k : ℕ) → k < n → Agreed table cells ds (slice_get ds k)
