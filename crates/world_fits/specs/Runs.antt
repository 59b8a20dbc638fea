-- What a piece of code asks of its frame and of the cells: the conditions of its evaluation, and of the run of an action block.
use Rattle.std.specs.Prelude.{◌≡◌, ℕ, Bool, false, List, [], ◌∷◌, map, Option, Some, None, slice_get, ⊤}
use Rattle.identity_path.specs.declared.input.Input.{Input}
use Rattle.identity_path.specs.Cells.{CellMap}
use Rattle.swift_ast.specs.declared.tree.Binder.{Binder}
use Rattle.swift_core.specs.Codes.{Parts as Program, block_in, code_at}
use Rattle.swift_core.specs.Context.{Local, Itself, HasMember, local_of}
use Rattle.swift_core.specs.Programs.{Reaches}
use Rattle.swift_core.specs.Typing.{HasPreference, GivesViews, IsAction, is_value, itself_in, itself_in_function}
use Rattle.swift_core.specs.declared.code.Code.{Code}
use Rattle.swift_core.specs.declared.code.CoreMember.{CoreMember}
use Rattle.swift_core.specs.declared.ids.BlockId.{BlockId}
use Rattle.swift_core.specs.declared.table.Argument.{Argument}
use Rattle.swift_core.specs.declared.table.Declaration.{Declaration}
use Rattle.swift_core.specs.declared.table.EnvironmentKey.{EnvironmentKey}
use Rattle.swift_core.specs.declared.table.Kind.{Kind}
use Rattle.swift_core.specs.declared.table.Kind.TheVariants as kind
use Rattle.swift_core.specs.declared.table.ParamSignature.{ParamSignature}
use Rattle.swift_core.specs.declared.table.Signature.{Signature}
use Rattle.swift_core.specs.declared.table.SignatureForm.{SignatureForm}
use Rattle.swift_core.specs.declared.table.SignatureForm.TheVariants as form
use Rattle.swift_core.specs.declared.table.Table.{Table}
use Rattle.swift_core.specs.declared.ty.Ty.{Ty}
use Rattle.core_means.specs.declared.parts.Frame.{Frame}
use Rattle.value_fits.specs.Cells.{SlotTypes, CellsFit}
use Rattle.world_fits.specs.Frames.{InputHas, FrameHas}

-- each input is what its type says
abbrev pub InputsHave : Table → SlotTypes → List Local → List Input → Type 0
InputsHave table types [] [] = ⊤
InputsHave table types (l ∷ ls) (x ∷ xs) = InputHas table types l x × InputsHave table types ls xs
InputsHave table types ls xs = ⊥

-- the code of a view may use the frame of this view
abbrev pub ViewHas : Table → SlotTypes → Itself → Option ℕ → Frame → Type 0
ViewHas table types itself owner frame = itself ≡ Itself.a_view → (d : ℕ) → owner ≡ Some d → FrameHas table types d frame

-- ---- code that gives a value

-- What `self` is in a member that gives a value, and the types of its parameters. That of `reduce` has the first value of its
-- `inout` parameter and the answer of `nextValue`.
pub data GivesValueWith (table : Table) (k : Kind) : SignatureForm → Itself → List Ty → Type 0 where
  initial_of_stored : {n : ℕ} {b : Binder} {t : Option Ty} {a : Argument} → GivesValueWith table k (form.Stored n b t a) Itself.no_self []
  initial_of_state : {n : ℕ} {t : Option Ty} {a : Argument} → GivesValueWith table k (form.State n t a) Itself.no_self []
  of_static : {t : Option Ty} → GivesValueWith table k (form.Static t) Itself.no_self []
  of_computed : {t : Option Ty} → GivesValueWith table k (form.Computed t) (itself_in k) []
  of_function : {ps : List ParamSignature} {t : Ty} {mutating : Bool} {ts : List Ty}
      → map (λ (p : ParamSignature). p.ty) ps ≡ map Some ts → GivesValueWith table k (form.Function ps (Some t) mutating) (itself_in_function mutating k) ts
  of_reduce : {n : ℕ} {t : Ty} → k ≡ kind.Key n → HasPreference table n t → GivesValueWith table k form.Reduce Itself.no_self (t ∷ t ∷ [])

-- the code with this number gives a value: what `self` is there, whose member it is, and the types of its parameters
pub data IsEvaluated (table : Table) : ℕ → Itself → Option ℕ → List Ty → Type 0 where
  default_of_key : {n : ℕ} (k : ℕ) {key : EnvironmentKey} → slice_get table.environment k ≡ Some key → key.default.number ≡ n → IsEvaluated table n Itself.no_self None []
  code_of_member : {n d : ℕ} {s : Signature} {declaration : Declaration} {itself : Itself} {ts : List Ty}
      → slice_get table.declarations d ≡ Some declaration → HasMember table d s → s.code.number ≡ n → GivesValueWith table declaration.kind s.form itself ts
      → IsEvaluated table n itself (Some d) ts

-- The condition of the evaluation of a piece of code.
pub record EvalFits (p : Program) (n : ℕ) (frame : Frame) (cells : CellMap) : Type 0 where
  -- it is there, gives a value without a `self` of its own, and reaches no write
  pub code : Code
  pub there : code_at p n ≡ Some code
  pub itself : Itself
  pub owner : Option ℕ
  pub parameters : List Ty
  pub gives : IsEvaluated p.table n itself owner parameters
  pub no_value : is_value itself ≡ false
  pub no_write : Reaches p.members n → ⊥
  -- each state slot has one type, and the cells and the frame have what the types say
  pub types : SlotTypes
  pub cells_fit : CellsFit p.table types cells
  pub view_has : ViewHas p.table types itself owner frame
  pub locals_have : InputsHave p.table types (map Local.valued parameters) frame.locals

-- ---- action blocks

-- The condition of the run of an action block: the code with this number is a block of a builder, where these locals stand and with
-- parameters of these types.
pub record ExecFits (p : Program) (n : ℕ) (frame : Frame) (cells : CellMap) : Type 0 where
  pub d : ℕ
  pub declaration : Declaration
  pub declared : slice_get p.table.declarations d ≡ Some declaration
  pub sign : Signature
  pub has : HasMember p.table d sign
  pub parameters_of : List ParamSignature
  pub views : GivesViews sign parameters_of
  pub member : CoreMember
  pub member_there : slice_get p.members sign.code.number ≡ Some member
  pub block : BlockId
  pub code : Code
  pub is_block : slice_get member.blocks block.number ≡ Some code
  pub numbered : block_in p.members block.number (Some sign.code.number) ≡ Some n
  pub there : code_at p n ≡ Some code
  pub locals : List Local
  pub parameters : List Ty
  pub action : IsAction (record { table = p.table; owner = Some d; itself = itself_in declaration.kind; blocks = member.blocks }) locals block parameters
  -- Each state slot has one type, and the cells and the frame have what the types say. The locals of the frame are what the code
  -- says of them.
  pub types : SlotTypes
  pub cells_fit : CellsFit p.table types cells
  pub view_has : ViewHas p.table types (itself_in declaration.kind) (Some d) frame
  pub locals_have : InputsHave p.table types (map local_of code.types) frame.locals
