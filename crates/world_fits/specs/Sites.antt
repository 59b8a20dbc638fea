-- Where code runs, and the worlds that fit the context of a term there.
use Rattle.std.specs.Prelude.{◌≡◌, ℕ, Bool, true, false, List, ◌++◌, length, Option, Some, None, ◌⊎◌, ⊤, slice_get}
use Rattle.identity_path.specs.declared.input.Input.{Input}
use Rattle.identity_path.specs.declared.place.Place.{Place}
use Rattle.identity_path.specs.declared.step.Step.{Step}
use Rattle.sv_value.specs.declared.value.Value.{Value}
use Rattle.swift_ast.specs.declared.tree.Binder.{Binder}
use Rattle.swift_core.specs.Codes.{Parts as Program}
use Rattle.swift_core.specs.Context.{Context, Local, Itself, HasMember}
use Rattle.swift_core.specs.Programs.{Reaches}
use Rattle.swift_core.specs.Values.{HasValue}
use Rattle.swift_core.specs.declared.code.Code.{Code}
use Rattle.swift_core.specs.declared.ids.PlaceRule.TheVariants as rule
use Rattle.swift_core.specs.declared.mention.Mention.{Mention}
use Rattle.swift_core.specs.declared.mention.Mention.TheVariants as mention
use Rattle.swift_core.specs.declared.table.Argument.{Argument}
use Rattle.swift_core.specs.declared.table.Declaration.{Declaration}
use Rattle.swift_core.specs.declared.table.EnvironmentKey.{EnvironmentKey}
use Rattle.swift_core.specs.declared.table.Kind.TheVariants as kind
use Rattle.swift_core.specs.declared.table.Signature.{Signature}
use Rattle.swift_core.specs.declared.table.SignatureForm.TheVariants as form
use Rattle.swift_core.specs.declared.ty.Ty.{Ty}
use Rattle.swift_core.specs.declared.ty.Ty.TheVariants as ty
use Rattle.core_means.specs.declared.origin.Origin.{Origin}
use Rattle.core_means.specs.declared.origin.Origin.TheVariants as origin
use Rattle.core_means.specs.declared.parts.Local.{Local as Held}
use Rattle.core_means.specs.declared.parts.Local.TheVariants as held
use Rattle.core_means.specs.Asks.{World, Live}
use Rattle.value_fits.specs.Cells.{SlotTypes, PlaceFits, CellsFit}
use Rattle.world_fits.specs.Frames.{InputHas, HasAt, FrameHas}

-- What stays the same in a run: the program, the view whose frame it has, if it is of a view, its path, the types of the state
-- slots, and whether it is an action block.
pub record Site : Type 0 where
  pub program : Program
  pub view : Option ℕ
  pub home : List Step
  pub types : SlotTypes
  pub is_block : Bool

-- What the terms of a piece of code share: whose member it is, what `self` is, its blocks, and which locals are there.
pub record Scope : Type 0 where
  pub owner : Option ℕ
  pub itself : Itself
  pub blocks : List Code
  pub shows : ℕ → Bool

abbrev pub is_view : Itself → Bool
is_view Itself.a_view = true
is_view other = false

module _ (site : Site) where
  abbrev pub context : Scope → Context
  context sc = record { table = site.program.table; owner = sc.owner; itself = sc.itself; blocks = sc.blocks }

  abbrev pub ValueHas : Ty → Value → Type 0
  ValueHas = HasValue site.program.table

  abbrev pub Holds : Local → Input → Type 0
  Holds = InputHas site.program.table site.types

  -- the sources that the frame has, and what stands there
  pub data SourceHas : Origin → Local → Type 0 where
    stored : {d n : ℕ} {b : Binder} {t : Ty} {a : Argument} {s : Signature}
        → site.view ≡ Some d → HasMember site.program.table d s → s.form ≡ form.Stored n b (Some t) a → SourceHas (origin.Input n) (Local.valued t)
    bound : {d n : ℕ} {t : Ty} {s : Signature}
        → site.view ≡ Some d → HasMember site.program.table d s → s.form ≡ form.Binding n (Some t) → SourceHas (origin.Input n) (Local.placed t)
    slot : {d n : ℕ} {t : Ty} {a : Argument} {s : Signature}
        → site.view ≡ Some d → HasMember site.program.table d s → s.form ≡ form.State n (Some t) a → SourceHas (origin.Slot (rule.Own n)) (Local.valued t)
    place : {p : Place} {t : Ty} → PlaceFits site.program.table site.types p t → SourceHas (origin.Place p) (Local.valued t)
    key : {d k : ℕ} {t : Ty} {key : EnvironmentKey}
        → site.view ≡ Some d → slice_get site.program.table.environment k ≡ Some key → key.ty ≡ Some t → SourceHas (origin.Environment k) (Local.valued t)

  -- ---- worlds

  -- a local of the run: it holds what its type says, or is absent, where the code does not use it
  abbrev pub LocalHas : Bool → Local → Held → Type 0
  LocalHas shown l (held.Holds x) = Holds l x
  LocalHas shown l (held.Captured i) = ⊥
  LocalHas shown l held.Preference = ⊥
  LocalHas shown l held.Absent = shown ≡ false

  pub record LocalsFit (shows : ℕ → Bool) (locals : List Local) (here : List Held) : Type 0 where
    pub as_many : length here ≡ length locals
    pub each : (i : ℕ) (l : Local) → slice_get locals i ≡ Some l → HasAt (LocalHas (shows i) l) here i

  -- `self` in a member of a data struct or an enum is a value of it.
  abbrev pub ItselfFits : Itself → Option ℕ → Option Value → Type 0
  ItselfFits Itself.no_self owner o = ⊤
  ItselfFits Itself.a_view owner o = (d : ℕ) × (owner ≡ Some d) × (site.view ≡ Some d) × ((declaration : Declaration)
      × (slice_get site.program.table.declarations d ≡ Some declaration) × (declaration.kind ≡ kind.View))
  ItselfFits Itself.a_value owner o = (d : ℕ) × (owner ≡ Some d) × ((v : Value) × (o ≡ Some v) × ValueHas (ty.Named d) v)
  ItselfFits Itself.a_changed_value owner o = (d : ℕ) × (owner ≡ Some d) × ((v : Value) × (o ≡ Some v) × ValueHas (ty.Named d) v)

  -- A body asks. An action block sees its frame, and the cells as it left them so far.
  abbrev pub LiveFits : Option Live → Type 0
  LiveFits None = site.is_block ≡ false
  LiveFits (Some live) = (site.is_block ≡ true) × (live.frame.path ≡ site.home)
      × ((d : ℕ) → site.view ≡ Some d → FrameHas site.program.table site.types d live.frame) × CellsFit site.program.table site.types live.cells

  -- Places stand in locals where there is a view, or in an action block.
  abbrev pub MayPlace : Itself → List Local → Type 0
  MayPlace itself locals = (i : ℕ) (t : Ty) → slice_get locals i ≡ Some (Local.placed t) → (is_view itself ≡ true) ⊎ (site.is_block ≡ true)

  pub record Fits (sc : Scope) (locals : List Local) (w : World) : Type 0 where
    pub here : LocalsFit sc.shows locals w.locals
    pub places : MayPlace sc.itself locals
    pub itself : ItselfFits sc.itself sc.owner w.itself
    pub home : w.home ≡ site.home
    pub live : LiveFits w.live

  -- Locals may have been added.
  abbrev pub Grown : Scope → List Local → World → Type 0
  Grown sc locals w = (more : List Local) × Fits sc (locals ++ more) w

  -- ---- what a term may do

  -- It uses the locals that are there. In a view, a run that is no action block writes no cells, and runs no code that does.
  abbrev pub Allowed : Scope → Mention → Type 0
  Allowed sc (mention.Local i) = sc.shows i ≡ true
  Allowed sc (mention.Code c) = is_view sc.itself ≡ true → site.is_block ≡ false → Reaches site.program.members c.number → ⊥
  Allowed sc mention.Write = is_view sc.itself ≡ true → site.is_block ≡ true
  Allowed sc (mention.Block b) = ⊤
