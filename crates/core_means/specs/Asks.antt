-- The steps that a meaning is made of. What a form does is a tree: it gives a value, or traps, or asks a source and goes on by
-- what it finds there. So what a body does depends on its look-ups through nothing but `Ask`.
use Rattle.std.specs.Prelude.{◌≡◌, ℕ, zero, suc, List, [], ◌∷◌, ◌++◌, Bool, true, false, Option, Some, None, Result, Ok, Err, if◌then◌else◌, ⊤}
use Rattle.std.specs.List.{list_any}
use Rattle.identity_path.specs.declared.input.Input.{Input}
use Rattle.identity_path.specs.declared.step.Step.{Step}
use Rattle.identity_path.specs.Cells.{CellMap}
use Rattle.sv_value.specs.declared.value.Value.{Value}
use Rattle.value_calls.specs.declared.traps.TrapKind.{TrapKind}
use Rattle.value_calls.specs.declared.traps.TrapKind.TheVariants.{Fuel, Index}
use Rattle.value_calls.specs.declared.traps.Stop.{Stop}
use Rattle.value_calls.specs.declared.traps.Stop.TheVariants.{Trap, OutOfMemory}
use Rattle.value_calls.specs.Traps.{Outcome}
use Rattle.core_means.specs.declared.origin.Origin.{Origin}
use Rattle.core_means.specs.declared.origin.Read.{Read}
use Rattle.core_means.specs.declared.parts.Frame.{Frame}
use Rattle.core_means.specs.declared.parts.Local.{Local}
use Rattle.core_means.specs.declared.parts.Run.{Run}
use Rattle.core_means.specs.Sources.{Found, same_origin}

-- what an action block sees at each of its look-ups: its frame, and the cells as it left them so far
pub record Live : Type 0 where
  pub frame : Frame
  pub cells : CellMap

-- What a run changes, and the path of its view. A body has nothing to see here: it asks.
pub record World : Type 0 where
  pub fuel : ℕ
  pub locals : List Local
  pub itself : Option Value
  pub nodes : ℕ
  pub home : List Step
  pub live : Option Live

-- `Wrong` is no answer: it stands where a form is not well typed.
pub data Asks (A : Type 0) : Type 0 where
  Done : A → World → Asks A
  Trapped : TrapKind → World → Asks A
  Wrong : Asks A
  Ask : Origin → World → (Input → Asks A) → Asks A

abbrev pub Doing : Type 0 → Type 0
Doing A = World → Asks A

-- one step after another
unfoldable pub and_then : {A B : Type 0} → Asks A → (A → Doing B) → Asks B
and_then (Done x w) f = f x w
and_then (Trapped k w) f = Trapped k w
and_then Wrong f = Wrong
and_then (Ask s w g) f = Ask s w (λ v. and_then (g v) f)

infixl 10 ◌>>=◌
abbrev pub ◌>>=◌ : {A B : Type 0} → Doing A → (A → Doing B) → Doing B
m >>= f = λ w. and_then (m w) f

infixl 10 ◌>>◌
abbrev pub ◌>>◌ : {A B : Type 0} → Doing A → Doing B → Doing B
m >> n = λ w. and_then (m w) (λ _. n)

abbrev pub give : {A : Type 0} → A → Doing A
give x = λ w. Done x w

abbrev pub trap : {A : Type 0} → TrapKind → Doing A
trap k = λ w. Trapped k w

abbrev pub wrong : {A : Type 0} → Doing A
wrong = λ w. Wrong

abbrev pub spent : ℕ → World → Asks (Unit {0})
spent zero w = Trapped Fuel w
spent (suc n) w = Done tt (record w { fuel = n })

-- a unit of fuel
abbrev pub spend : Doing (Unit {0})
spend = λ w. spent w.fuel w

-- what a table holds; where it holds nothing, the form is wrong
abbrev pub given : {A : Type 0} → Option A → Doing A
given None = wrong
given (Some x) = give x

abbrev pub found : {A B : Type 0} → Option A → (A → Doing B) → Doing B
found None f = wrong
found (Some x) f = f x

-- what an operator or a built-in call answers
abbrev pub answered : {A : Type 0} → Outcome A → Doing A
answered None = wrong
answered (Some (Ok x)) = give x
answered (Some (Err k)) = trap k

abbrev pub choose : {A : Type 0} → Bool → Doing A → Doing A → Doing A
choose true p q = p
choose false p q = q

-- ---- under a look-up

abbrev pub Look : Type 0
Look = Origin → Found

abbrev pub Reads : Type 0
Reads = List Read

-- what a tree gives under a look-up, with what was looked up, each source once
pub data Answer (A : Type 0) : Type 0 where
  Gave : A → World → Reads → Answer A
  Stopped : TrapKind → World → Reads → Answer A
  Bad : Answer A

abbrev pub is_noted : Origin → Reads → Bool
is_noted s reads = list_any (λ r. same_origin s r.origin) reads

unfoldable pub noted : Origin → Input → Reads → Reads
noted s v reads = if is_noted s reads then reads else reads ++ record { origin = s; input = v } ∷ []

-- An index of a place that is out of range is the trap `index`.
abbrev pub asked : {A : Type 0} → Found → World → Reads → (Input → Answer A) → Answer A
asked None w reads f = Bad
asked (Some (Err missing)) w reads f = Stopped Index w reads
asked (Some (Ok v)) w reads f = f v

unfoldable pub under : {A : Type 0} → Look → Reads → Asks A → Answer A
under look reads (Done x w) = Gave x w reads
under look reads (Trapped k w) = Stopped k w reads
under look reads Wrong = Bad
under look reads (Ask s w g) = asked (look s) w reads (λ v. under look (noted s v reads) (g v))

abbrev pub after : {A B : Type 0} → Answer A → (A → World → Reads → Answer B) → Answer B
after (Gave x w reads) f = f x w reads
after (Stopped k w reads) f = Stopped k w reads
after Bad f = Bad

-- ---- the code and the meaning

-- no answer is wrong
abbrev pub IsRight : {A : Type 0} → Answer A → Type 0
IsRight (Gave x w reads) = ⊤
IsRight (Stopped k w reads) = ⊤
IsRight Bad = ⊥

-- an action block sees; a body asks
abbrev pub seeing : Bool → Frame → CellMap → Option Live
seeing true frame cells = Some (record { frame = frame; cells = cells })
seeing false frame cells = None

-- the world of a run of the code, in a frame and over cells
abbrev pub world : Run → Bool → Frame → CellMap → World
world run is_block frame cells = record {
  fuel = run.fuel;
  locals = run.locals;
  itself = run.itself;
  nodes = run.nodes;
  home = frame.path;
  live = seeing is_block frame cells;
}

-- The result of the code and what it left are the answer, unless memory ran out.
abbrev pub Leaves : {A : Type 0} → Result A Stop → World → Reads → Answer A → Type 0
Leaves (Ok x) w reads answer = answer ≡ Gave x w reads
Leaves (Err (Trap k)) w reads answer = answer ≡ Stopped k w reads
Leaves (Err OutOfMemory) w reads answer = ⊤
