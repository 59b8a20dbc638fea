-- What a body asks of its frame and of the cells.
use Rattle.std.specs.Prelude.{◌≡◌, ℕ, List, [], ◌∷◌, map, Some, slice_get}
use Rattle.identity_path.specs.Cells.{CellMap}
use Rattle.swift_core.specs.Codes.{Parts as Program, code_at, block_in}
use Rattle.swift_core.specs.Context.{Local, Itself, HasMember, local_of}
use Rattle.swift_core.specs.Typing.{GivesViews, IsReader, itself_in}
use Rattle.swift_core.specs.declared.code.Code.{Code}
use Rattle.swift_core.specs.declared.code.CoreMember.{CoreMember}
use Rattle.swift_core.specs.declared.ids.BlockId.{BlockId}
use Rattle.swift_core.specs.declared.table.Declaration.{Declaration}
use Rattle.swift_core.specs.declared.table.Kind.{Kind}
use Rattle.swift_core.specs.declared.table.ParamSignature.{ParamSignature}
use Rattle.swift_core.specs.declared.table.Signature.{Signature}
use Rattle.swift_core.specs.declared.table.SignatureForm.TheVariants as form
use Rattle.swift_core.specs.declared.ty.Ty.{Ty}
use Rattle.core_means.specs.declared.parts.Frame.{Frame}
use Rattle.value_fits.specs.Cells.{SlotTypes, CellsFit}
use Rattle.world_fits.specs.Runs.{InputsHave, ViewHas}

-- ---- the condition

-- The code with this number, of a member of declaration d of this kind, is a unit. It stands where these locals are, and has
-- parameters of these types.
pub data IsUnit (p : Program) (unit d : ℕ) (k : Kind) : List Local → List Ty → Type 0 where
  -- a property that gives views, as is the body of the app or of a view
  a_body : {s : Signature} → HasMember p.table d s → s.form ≡ form.BuilderProperty → s.code.number ≡ unit → IsUnit p unit d k [] []
  -- The builder of a preference reader, in a member that gives views. Its parameter is the preference.
  a_reader : {s : Signature} {ps : List ParamSignature} {m : CoreMember} {b : BlockId} {locals : List Local} {t : Ty}
      → HasMember p.table d s → GivesViews s ps → slice_get p.members s.code.number ≡ Some m → block_in p.members b.number (Some s.code.number) ≡ Some unit
      → IsReader (record { table = p.table; owner = Some d; itself = itself_in k; blocks = m.blocks }) locals b t
      -- locals that hold places stand in a view
      → ((i : ℕ) (u : Ty) → slice_get locals i ≡ Some (Local.placed u) → itself_in k ≡ Itself.a_view)
      → IsUnit p unit d k locals (t ∷ [])

-- The condition of the run of a body.
pub record BodyFits (p : Program) (unit : ℕ) (frame : Frame) (cells : CellMap) : Type 0 where
  -- it is a unit
  pub d : ℕ
  pub declaration : Declaration
  pub declared : slice_get p.table.declarations d ≡ Some declaration
  pub locals : List Local
  pub parameters : List Ty
  pub is_unit : IsUnit p unit d declaration.kind locals parameters
  pub code : Code
  pub there : code_at p unit ≡ Some code
  -- Each state slot has one type, and the cells and the frame have what the types say. The locals of the frame are what the code
  -- says of them: for a reader, those that it captured and then the preference.
  pub types : SlotTypes
  pub cells_fit : CellsFit p.table types cells
  pub view_has : ViewHas p.table types (itself_in declaration.kind) (Some d) frame
  pub locals_have : InputsHave p.table types (map local_of code.types) frame.locals
