-- What the evaluation of a piece of code and the run of an action block give, within the limits.
use Rattle.std.specs.Prelude.{ℕ, zero, suc, List, [], ◌∷◌, ◌++◌, length, slice_set, nat_lt, if◌then◌else◌, Option, Some, None, Result, Ok, Err, ⊤}
use Rattle.std.specs.FinMap as fin
use Rattle.identity_path.specs.declared.input.Input.{Input}
use Rattle.identity_path.specs.declared.step.Step.{Step}
use Rattle.identity_path.specs.Cells.{CellMap}
use Rattle.sv_value.specs.declared.value.Value.{Value}
use Rattle.swift_core.specs.declared.code.Code.{Code}
use Rattle.swift_core.specs.declared.code.CodeForm.{CodeForm}
use Rattle.swift_core.specs.declared.code.CodeForm.TheVariants as form
use Rattle.swift_core.specs.Codes.{Parts as Program}
use Rattle.value_calls.specs.declared.traps.Stop.{Stop}
use Rattle.value_calls.specs.declared.traps.Stop.TheVariants.{Trap, OutOfMemory}
use Rattle.value_calls.specs.Traps.{Outcome}
use Rattle.core_means.specs.declared.parts.Flow.{Flow}
use Rattle.core_means.specs.declared.parts.Flow.TheVariants.{Next, Returned, Broke, Continued}
use Rattle.core_means.specs.declared.parts.Frame.{Frame}
use Rattle.core_means.specs.declared.parts.Local.{Local}
use Rattle.core_means.specs.declared.parts.Local.TheVariants as local
use Rattle.core_means.specs.Asks.{World, Live, Doing, ◌>>=◌, give, wrong, Answer, Gave, Stopped, Bad, under}
use Rattle.core_means.specs.Means.{Inside, inner, block, code_of}
use Rattle.core_means.specs.Places.{plain_local}
use Rattle.core_means.specs.Sources.{seen}

-- ---- the locals of a frame

abbrev pub absent : ℕ → List Local
absent zero = []
absent (suc n) = local.Absent ∷ absent n

abbrev pub holding : List Input → List Local
holding [] = []
holding (v ∷ vs) = local.Holds v ∷ holding vs

-- the locals with one more at its place
abbrev pub with_local : List Local → ℕ → Input → List Local
with_local locals place v = if nat_lt place (length locals) then slice_set locals place (local.Holds v) else locals

-- The first ones at the places of those that are kept; after all that stand where the code is written come the parameters.
abbrev pub placed : List Local → List ℕ → List Input → List Local
placed locals [] vs = locals ++ holding vs
placed locals (k ∷ ks) [] = locals
placed locals (k ∷ ks) (v ∷ vs) = placed (with_local locals k v) ks vs

-- the locals that a piece of code begins with
unfoldable pub laid : Code → List Input → List Local
laid code vs = placed (absent code.outer) code.kept vs

-- the world at the beginning: 1,000,000 units of fuel
abbrev pub begin : List Local → List Step → Option Live → World
begin locals home live = record { fuel = 1000000; locals = locals; itself = None; nodes = 0; home = home; live = live }

-- ---- what the code gives

-- The value of the statements; those of a `reduce` end without one, and give the last value of its `inout` parameter.
abbrev pub given_by : Flow → Doing Value
given_by (Returned (Some v)) = give v
given_by (Returned None) = plain_local 0
given_by Next = plain_local 0
given_by Broke = wrong
given_by Continued = wrong

module _ (i : Inside) where
  abbrev pub value_of_form : CodeForm → Doing Value
  value_of_form (form.Value e) = i.eval e
  value_of_form (form.Statements ss) = block i ss >>= given_by
  value_of_form (form.Builder items) = wrong

  unfoldable pub value_of_code : Code → Doing Value
  value_of_code code = value_of_form code.form

  -- An action block ends without a value.
  abbrev pub done_by : Flow → Doing (Unit {0})
  done_by Next = give tt
  done_by (Returned None) = give tt
  done_by (Returned (Some v)) = wrong
  done_by Broke = wrong
  done_by Continued = wrong

  abbrev pub action_of_form : CodeForm → Doing (Unit {0})
  action_of_form (form.Value e) = wrong
  action_of_form (form.Statements ss) = block i ss >>= done_by
  action_of_form (form.Builder items) = wrong

  unfoldable pub action_of_code : Code → Doing (Unit {0})
  action_of_code code = action_of_form code.form

-- ---- with the limits: 1,000 forms may be entered

abbrev pub evaluated : Program → Frame → CellMap → Option Code → Answer Value
evaluated p frame cells None = Bad
evaluated p frame cells (Some code) = under (seen frame cells) [] (value_of_code (inner p 1000) code (begin (laid code frame.locals) frame.path None))

-- the value of a piece of code, in a frame and over cells
unfoldable pub Evaluates : Program → ℕ → Frame → CellMap → Answer Value
Evaluates p id frame cells = evaluated p frame cells (code_of p id)

-- An action block sees its frame and the cells, and asks nothing.
abbrev pub executed : Program → Frame → CellMap → Option Code → Answer (Unit {0})
executed p frame cells None = Bad
executed p frame cells (Some code) =
    under (seen frame fin.empty) [] (action_of_code (inner p 1000) code (begin (laid code frame.locals) frame.path (Some (record { frame = frame; cells = cells }))))

unfoldable pub Executes : Program → ℕ → Frame → CellMap → Answer (Unit {0})
Executes p id frame cells = executed p frame cells (code_of p id)

-- ---- what the callers see of it

abbrev pub result_of : {A : Type 0} → Answer A → Outcome A
result_of (Gave x w reads) = Some (Ok x)
result_of (Stopped k w reads) = Some (Err k)
result_of Bad = None

abbrev pub live_cells : Option Live → Option CellMap
live_cells None = None
live_cells (Some live) = Some live.cells

-- the cells at the end, also at a trap
abbrev pub cells_of : {A : Type 0} → Answer A → Option CellMap
cells_of (Gave x w reads) = live_cells w.live
cells_of (Stopped k w reads) = live_cells w.live
cells_of Bad = None

-- a fact, unless memory ran out
abbrev pub UnlessOutOfMemory : {A : Type 0} → Result A Stop → Type 0 → Type 0
UnlessOutOfMemory (Ok x) P = P
UnlessOutOfMemory (Err (Trap k)) P = P
UnlessOutOfMemory (Err OutOfMemory) P = ⊤
