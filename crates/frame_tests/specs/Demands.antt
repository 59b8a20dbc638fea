-- What code asks of its frame, in two parts: what is asked of places, and what is plain without them.
use Rattle.std.specs.Prelude.{◌≡◌, ◌↔◌, ℕ, List, [], ◌∷◌, ◌++◌, map, Option, Some, None, slice_get, ⊤}
use Rattle.std.proofs.Common.{refl, ap, ◌∙◌}
use Rattle.identity_path.specs.declared.input.Input.{Input}
use Rattle.identity_path.specs.declared.input.Input.TheVariants as input
use Rattle.identity_path.specs.declared.place.Place.{Place}
use Rattle.identity_path.specs.Cells.{CellMap}
use Rattle.swift_core.specs.Context.{Local, Itself}
use Rattle.swift_core.specs.Values.{HasValue}
use Rattle.swift_core.specs.declared.table.Declaration.{Declaration}
use Rattle.swift_core.specs.declared.table.EnvironmentKey.{EnvironmentKey}
use Rattle.swift_core.specs.declared.table.Signature.{Signature}
use Rattle.swift_core.specs.declared.table.SignatureForm.{SignatureForm}
use Rattle.swift_core.specs.declared.table.SignatureForm.TheVariants as form
use Rattle.swift_core.specs.declared.table.Table.{Table}
use Rattle.swift_core.specs.declared.ty.Ty.{Ty}
use Rattle.core_means.specs.declared.parts.Frame.{Frame}
use Rattle.value_fits.specs.Cells.{SlotTypes, CellsFit}
use Rattle.world_fits.specs.Frames.{HasAt, FrameHas}
use Rattle.world_fits.specs.Runs.{InputsHave, ViewHas}
use Rattle.place_tests.specs.Demands.{Demand}
use Rattle.place_tests.specs.Nested.{SomeAnswer}

-- ---- whose frame it is

-- the view whose frame the code may use
abbrev pub view_of : Itself → Option ℕ → Option ℕ
view_of Itself.a_view owner = owner
view_of Itself.no_self owner = None
view_of Itself.a_value owner = None
view_of Itself.a_changed_value owner = None

abbrev pub members_in : Option Declaration → List Signature
members_in None = []
members_in (Some declaration) = declaration.members

-- the members of the view
abbrev pub members_of : Table → Option ℕ → List Signature
members_of table None = []
members_of table (Some d) = members_in (slice_get table.declarations d)

-- ---- what is asked of places

-- that the value at the place has the type
abbrev pub ask : Place → Ty → Demand
ask place t = record { place = place; ty = t }

-- of a state: that of the whole slot
abbrev pub whole_slot : Frame → ℕ → Place
whole_slot frame n = record { path = frame.path; slot = n; hops = [] }

-- of an input that is to be a place
abbrev pub place_demand : Ty → Option Input → Option Demand
place_demand t None = None
place_demand t (Some (input.Value v)) = None
place_demand t (Some (input.Place p)) = Some (ask p t)

-- of a member of the view: of the slot of a state, and of the place that a binding has
abbrev pub form_demand : Frame → SignatureForm → Option Demand
form_demand frame (form.State n (Some t) a) = Some (ask (whole_slot frame n) t)
form_demand frame (form.Binding n (Some t)) = place_demand t (slice_get frame.inputs n)
form_demand frame other = None

abbrev pub local_demand : Local → Input → Option Demand
local_demand (Local.valued t) x = None
local_demand (Local.placed t) x = place_demand t (Some x)

abbrev pub local_demands : List Local → List Input → List (Option Demand)
local_demands [] xs = []
local_demands (l ∷ ls) [] = []
local_demands (l ∷ ls) (x ∷ xs) = local_demand l x ∷ local_demands ls xs

-- of these members, and then of the locals
abbrev pub demands_of : Frame → List Signature → List Local → List (Option Demand)
demands_of frame ms ls = map (λ (s : Signature). form_demand frame s.form) ms ++ local_demands ls frame.locals

-- ---- what is plain

abbrev pub IsValue : Table → Ty → Option Input → Type 0
IsValue table t None = ⊥
IsValue table t (Some (input.Value v)) = HasValue table t v
IsValue table t (Some (input.Place p)) = ⊥

abbrev pub IsPlace : Option Input → Type 0
IsPlace None = ⊥
IsPlace (Some (input.Value v)) = ⊥
IsPlace (Some (input.Place p)) = ⊤

-- a stored property is a value of its type, and a binding is a place
abbrev pub FormPlain : Table → Frame → SignatureForm → Type 0
FormPlain table frame (form.Stored n b (Some t) a) = IsValue table t (slice_get frame.inputs n)
FormPlain table frame (form.Binding n (Some t)) = IsPlace (slice_get frame.inputs n)
FormPlain table frame other = ⊤

-- so is each of these members
pub record MembersPlain (table : Table) (frame : Frame) (ms : List Signature) : Type 0 where
  pub each : (k : ℕ) (s : Signature) → slice_get ms k ≡ Some s → FormPlain table frame s.form

-- a local is a value of its type, or a place where it is to be one
abbrev pub LocalPlain : Table → Local → Input → Type 0
LocalPlain table (Local.valued t) x = IsValue table t (Some x)
LocalPlain table (Local.placed t) x = IsPlace (Some x)

-- so is each local, and there are no others
pub data LocalsPlain (table : Table) : List Local → List Input → Type 0 where
  no_locals : LocalsPlain table [] []
  more_locals : {l : Local} {x : Input} {ls : List Local} {xs : List Input} → LocalPlain table l x → LocalsPlain table ls xs → LocalsPlain table (l ∷ ls) (x ∷ xs)

-- the environment has a value for this key, if the key has a type
pub record KeyPlain (table : Table) (frame : Frame) (k : ℕ) (key : EnvironmentKey) : Type 0 where
  pub has : (t : Ty) → key.ty ≡ Some t → HasAt (HasValue table t) frame.env k

-- so it has for each of these keys
pub record KeysPlain (table : Table) (frame : Frame) (keys : List EnvironmentKey) : Type 0 where
  pub each : (k : ℕ) (key : EnvironmentKey) → slice_get keys k ≡ Some key → KeyPlain table frame k key

-- where the code may use the frame of a view, for each declared key
abbrev pub KeysOf : Table → Option ℕ → Frame → Type 0
KeysOf table None frame = ⊤
KeysOf table (Some d) frame = KeysPlain table frame table.environment

pub record Plain (table : Table) (view : Option ℕ) (frame : Frame) (ls : List Local) : Type 0 where
  pub of_members : MembersPlain table frame (members_of table view)
  pub of_keys : KeysOf table view frame
  pub of_locals : LocalsPlain table ls frame.locals

-- ---- the law

-- the cells and the frame have what the types of slots say
pub record Has (table : Table) (types : SlotTypes) (cells : CellMap) (view : Option ℕ) (frame : Frame) (ls : List Local) : Type 0 where
  pub cells_fit : CellsFit table types cells
  pub frame_has : (d : ℕ) → view ≡ Some d → FrameHas table types d frame
  pub locals_have : InputsHave table types ls frame.locals

pub data SomeTypes (table : Table) (cells : CellMap) (view : Option ℕ) (frame : Frame) (ls : List Local) : Type 0 where
  some_types : (types : SlotTypes) → Has table types cells view frame ls → SomeTypes table cells view frame ls

-- Some types of slots fit exactly where what is plain holds and some types answer what is asked of places.
abbrev pub FramesAreTested : Type 0
FramesAreTested = (table : Table) (cells : CellMap) (view : Option ℕ) (frame : Frame) (ls : List Local)
    → SomeTypes table cells view frame ls ↔ (Plain table view frame ls × SomeAnswer table cells (demands_of frame (members_of table view) ls))

-- ---- as the conditions of runs say it

pub view_is : (table : Table) (types : SlotTypes) (itself : Itself) (owner : Option ℕ) (frame : Frame)
    → ViewHas table types itself owner frame ↔ ((d : ℕ) → view_of itself owner ≡ Some d → FrameHas table types d frame)
view_is table types itself owner frame = (to itself, of itself)
  where
    to : (i : Itself) → ViewHas table types i owner frame → (d : ℕ) → view_of i owner ≡ Some d → FrameHas table types d frame
    to Itself.a_view h d e = h refl d e
    to Itself.no_self h d e = absurd (cc e)
    to Itself.a_value h d e = absurd (cc e)
    to Itself.a_changed_value h d e = absurd (cc e)

    of : (i : Itself) → ((d : ℕ) → view_of i owner ≡ Some d → FrameHas table types d frame) → ViewHas table types i owner frame
    of i h is d e = h d (ap (λ (j : Itself). view_of j owner) is ∙ e)
