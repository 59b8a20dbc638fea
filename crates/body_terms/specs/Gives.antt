-- What is known of the nodes that a body makes: what their blocks keep, what readers captured, and what custom views are given.
use Rattle.std.specs.Prelude.{◌≡◌, ℕ, Bool, true, false, nat_lt, List, [], ◌∷◌, ◌++◌, map, Option, Some, None, slice_get, ◌⊎◌, ⊤}
use Rattle.std.specs.List.{cons_option}
use Rattle.std.proofs.Common.{sym, subst}
use Rattle.identity_path.specs.declared.input.Input.{Input}
use Rattle.identity_path.specs.declared.input.Input.TheVariants as input
use Rattle.identity_path.specs.declared.step.Step.{Step}
use Rattle.swift_core.specs.Codes.{Parts as Program, block_in}
use Rattle.swift_core.specs.Context.{Context, Local, Itself, Part, HasMember, inputs_of, slots_of}
use Rattle.swift_core.specs.Typing.{GivesViews, IsAction, IsReader, HasPreference, itself_in}
use Rattle.swift_core.specs.declared.code.Code.{Code}
use Rattle.swift_core.specs.declared.code.CoreMember.{CoreMember}
use Rattle.swift_core.specs.declared.ids.BlockId.{BlockId}
use Rattle.swift_core.specs.declared.ids.CodeId.{CodeId}
use Rattle.swift_core.specs.declared.table.Declaration.{Declaration}
use Rattle.swift_core.specs.declared.table.Kind.TheVariants as kind
use Rattle.swift_core.specs.declared.table.ParamSignature.{ParamSignature}
use Rattle.swift_core.specs.declared.table.Signature.{Signature}
use Rattle.swift_core.specs.declared.table.Table.{Table}
use Rattle.swift_core.specs.declared.ty.Ty.{Ty}
use Rattle.view_nodes.specs.declared.node.Custom.{Custom}
use Rattle.view_nodes.specs.declared.node.Element.{Element, out-Element}
use Rattle.view_nodes.specs.declared.node.Element.TheOpen as one
use Rattle.view_nodes.specs.declared.node.Element.TheOpen.{Element-F}
use Rattle.view_nodes.specs.declared.node.Element.TheViews as element_view
use Rattle.view_nodes.specs.declared.node.Handler.{Handler}
use Rattle.view_nodes.specs.declared.node.Label.{Label}
use Rattle.view_nodes.specs.declared.node.Label.TheVariants as label
use Rattle.view_nodes.specs.declared.node.Reader.{Reader}
use Rattle.body_means.specs.Customs.{body_of}
use Rattle.body_means.specs.Elements.{led_at, led, all_led}
use Rattle.value_fits.specs.Cells.{SlotTypes}
use Rattle.world_fits.specs.Frames.{InputHas}
use Rattle.world_fits.specs.Lists.{Each}
use Rattle.world_fits.specs.Kept.{KeptHave}

-- ---- locals that are kept

-- What is kept of a local: nothing of one that is captured, and else what its type says.
abbrev pub OwnHas : Table → SlotTypes → Bool → Local → Option Input → Type 0
OwnHas table types true l None = ⊤
OwnHas table types true l (Some x) = ⊥
OwnHas table types false l None = ⊥
OwnHas table types false l (Some x) = InputHas table types l x

-- Of the locals at these places those before the limit are captured and left out, and the others are what their types say, in order.
abbrev pub OwnHave : Table → SlotTypes → List Local → ℕ → List ℕ → List Input → Type 0
OwnHave table types locals limit [] xs = xs ≡ []
OwnHave table types locals limit (k ∷ ks) xs =
    (l : Local) × (slice_get locals k ≡ Some l) × ((o : Option Input) × OwnHas table types (nat_lt k limit) l o × ((rest : List Input) × (xs ≡ cons_option o rest) × OwnHave table types locals limit ks rest))

-- ---- blocks

-- the block with this number, of a member that gives views
pub record BlockPlace (p : Program) (number : ℕ) : Type 0 where
  pub d : ℕ
  pub declaration : Declaration
  pub declared : slice_get p.table.declarations d ≡ Some declaration
  pub sign : Signature
  pub has : HasMember p.table d sign
  pub parameters_of : List ParamSignature
  pub views : GivesViews sign parameters_of
  pub member : CoreMember
  pub member_there : slice_get p.members sign.code.number ≡ Some member
  pub block : BlockId
  pub code : Code
  pub is_block : slice_get member.blocks block.number ≡ Some code
  pub numbered : block_in p.members block.number (Some sign.code.number) ≡ Some number

abbrev pub place_context : (p : Program) (number : ℕ) → BlockPlace p number → Context
place_context p number b = record { table = p.table; owner = Some b.d; itself = itself_in b.declaration.kind; blocks = b.member.blocks }

-- An action block, with what it keeps. The locals before the limit are captured: in the builder of a reader those that stand outside
-- it and its preference, and none in a member that gives views.
pub record HandlerFits (p : Program) (types : SlotTypes) (whole : ℕ) (h : Handler) : Type 0 where
  pub place : BlockPlace p h.code.number
  pub locals : List Local
  pub parameters : List Ty
  pub action : IsAction (place_context p h.code.number place) locals place.block parameters
  pub limit : ℕ
  pub is_limit : (limit ≡ 0) ⊎ (limit ≡ whole)
  pub kept : OwnHave p.table types locals limit place.code.kept h.locals

-- a preference reader, with what its closure captured
pub record ReaderFits (p : Program) (types : SlotTypes) (r : Reader) : Type 0 where
  pub place : BlockPlace p r.unit.number
  pub locals : List Local
  pub preference : Ty
  pub key : HasPreference p.table r.key preference
  pub reads : IsReader (place_context p r.unit.number place) locals place.block preference
  pub places : (i : ℕ) (t : Ty) → slice_get locals i ≡ Some (Local.placed t) → itself_in place.declaration.kind ≡ Itself.a_view
  pub captured : KeptHave p.table types locals place.code.kept [] r.captured

-- ---- custom views

-- what stands in a part: a value, or a place for a binding
abbrev pub part_local : Bool → Ty → Local
part_local true t = Local.placed t
part_local false t = Local.valued t

abbrev pub PartHas : Table → SlotTypes → Part → Input → Type 0
PartHas table types p x = (t : Ty) × (p.ty ≡ Some t) × InputHas table types (part_local p.is_binding t) x

abbrev pub PartsHave : Table → SlotTypes → List Part → List Input → Type 0
PartsHave table types [] [] = ⊤
PartsHave table types (p ∷ ps) (x ∷ xs) = PartHas table types p x × PartsHave table types ps xs
PartsHave table types ps xs = ⊥

-- The use of a view: its stored properties and bindings, and the initial values of its slots, are what their types say.
pub record CustomFits (p : Program) (types : SlotTypes) (c : Custom) : Type 0 where
  pub d : ℕ
  pub declaration : Declaration
  pub declared : slice_get p.table.declarations d ≡ Some declaration
  pub is_view : declaration.kind ≡ kind.View
  pub code : CodeId
  pub body : body_of declaration ≡ Some code
  pub unit : c.unit.number ≡ code.number
  pub inputs : PartsHave p.table types (inputs_of declaration.members) c.inputs
  pub initials : PartsHave p.table types (slots_of declaration.members) (map input.Value c.initials)

-- ---- nodes

abbrev pub blocks_of : Label → List Handler
blocks_of (label.View n) = n.blocks
blocks_of (label.Modifier m) = m.blocks

mutual
  -- What the node holds is what its types say, and so are its parts.
  pub data NodeFits (p : Program) (types : SlotTypes) (whole : ℕ) : Element-F Element → Type 0 where
    plain_fits : {steps : List Step} {l : Label} {parts : List Element} → Each (HandlerFits p types whole) (blocks_of l) → PartsFit p types whole parts → NodeFits p types whole (one.Plain steps l parts)
    custom_fits : {steps : List Step} {c : Custom} → CustomFits p types c → NodeFits p types whole (one.Custom steps c)
    reader_fits : {steps : List Step} {r : Reader} {content : Element} → ReaderFits p types r → NodeFits p types whole (out-Element content) → NodeFits p types whole (one.Reader steps r content)

  pub data PartsFit (p : Program) (types : SlotTypes) (whole : ℕ) : List Element → Type 0 where
    no_parts : PartsFit p types whole []
    more_parts : {e : Element} {es : List Element} → NodeFits p types whole (out-Element e) → PartsFit p types whole es → PartsFit p types whole (e ∷ es)

module _ (p : Program) (types : SlotTypes) (whole : ℕ) where
  abbrev pub ElementFits : Element → Type 0
  ElementFits e = NodeFits p types whole (out-Element e)

  abbrev pub OptionFits : Option Element → Type 0
  OptionFits None = ⊤
  OptionFits (Some e) = ElementFits e

  led_node : (steps : List Step) (l : Element-F Element) → NodeFits p types whole l → ElementFits (led_at steps l)
  led_node steps l (NodeFits.plain_fits {steps = own} {l = n} {parts = parts} h k) = subst (NodeFits p types whole) (sym (element_view.outs-Plain (steps ++ own) n parts)) (NodeFits.plain_fits h k)
  led_node steps l (NodeFits.custom_fits {steps = own} {c = c} h) = subst (NodeFits p types whole) (sym (element_view.outs-Custom (steps ++ own) c)) (NodeFits.custom_fits h)
  led_node steps l (NodeFits.reader_fits {steps = own} {r = r} {content = inner} h k) = subst (NodeFits p types whole) (sym (element_view.outs-Reader (steps ++ own) r inner)) (NodeFits.reader_fits h k)

  pub led_fits : (steps : List Step) (e : Element) → ElementFits e → ElementFits (led steps e)
  unfolding led
  led_fits steps e h = led_node steps (out-Element e) h

  pub all_led_fit : (steps : List Step) (es : List Element) → PartsFit p types whole es → PartsFit p types whole (all_led steps es)
  unfolding all_led
  all_led_fit steps es PartsFit.no_parts = PartsFit.no_parts
  all_led_fit steps es' (PartsFit.more_parts {e = e} {es = es} h more) = PartsFit.more_parts (led_fits steps e h) (all_led_fit steps es more)

  pub parts_pushed : (es : List Element) (e : Element) → PartsFit p types whole es → ElementFits e → PartsFit p types whole (es ++ e ∷ [])
  parts_pushed es e PartsFit.no_parts h = PartsFit.more_parts h PartsFit.no_parts
  parts_pushed es' e (PartsFit.more_parts {es = es} k more) h = PartsFit.more_parts k (parts_pushed es e more h)
