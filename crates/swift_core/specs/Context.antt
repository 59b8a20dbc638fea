-- The context in which a piece of code is typed: the declarations, the member that the code is of, and its locals.
use Rattle.std.specs.Prelude.{◌≡◌, ℕ, Bool, true, false, List, ◌++◌, [], ◌∷◌, Option, Some, None, slice_get}
use Rattle.std.specs.List.{filter_map}
use Rattle.swift_core.specs.declared.ty.Ty.{Ty}
use Rattle.swift_core.specs.declared.ids.CodeId.{CodeId}
use Rattle.swift_core.specs.declared.code.Code.{Code}
use Rattle.swift_core.specs.declared.code.LocalType.{LocalType}
use Rattle.swift_core.specs.declared.code.LocalType.TheVariants as local_type
use Rattle.swift_core.specs.declared.table.Table.{Table}
use Rattle.swift_core.specs.declared.table.Declaration.{Declaration}
use Rattle.swift_core.specs.declared.table.Signature.{Signature}
use Rattle.swift_core.specs.declared.table.SignatureForm.{SignatureForm}
use Rattle.swift_core.specs.declared.table.SignatureForm.TheVariants as form
use Rattle.swift_core.specs.declared.table.Argument.{Argument}
use Rattle.swift_core.specs.declared.table.Argument.TheVariants as argument
use Rattle.swift_core.specs.declared.table.Initial.{Initial}

-- A local: it has a value of a type, or it holds a place whose value has the type.
pub data Local : Type 0 where
  valued : Ty → Local
  placed : Ty → Local

-- a local, by what its code says that it has
abbrev pub local_of : LocalType → Local
local_of (local_type.Value t) = Local.valued t
local_of (local_type.Place t) = Local.placed t

-- What `self` is.
pub data Itself : Type 0 where
  no_self : Itself
  a_view : Itself
  a_value : Itself
  -- in a `mutating` function
  a_changed_value : Itself

pub record Context : Type 0 where
  pub table : Table
  -- the declaration whose member the code is of
  pub owner : Option ℕ
  pub itself : Itself
  -- the blocks of this member
  pub blocks : List Code

-- The declaration has this member.
pub data HasMember (table : Table) (d : ℕ) (s : Signature) : Type 0 where
  member : {declaration : Declaration} (at : ℕ)
      → slice_get table.declarations d ≡ Some declaration → slice_get declaration.members at ≡ Some s → HasMember table d s

-- The declaration whose member the code is of has this member.
abbrev pub OwnMember : Context → Signature → Type 0
OwnMember cx s = (d : ℕ) × (cx.owner ≡ Some d) × HasMember cx.table d s

-- the locals where one may have been added
abbrev pub with_local : List Local → Option Local → List Local
with_local locals None = locals
with_local locals (Some l) = locals ++ l ∷ []

-- What an initialiser fills: a stored property, a state slot or a binding.
pub record Part : Type 0 where
  pub code : CodeId
  pub is_binding : Bool
  pub ty : Option Ty
  pub argument : Argument

abbrev pub stored_at : CodeId → SignatureForm → Option Part
stored_at code (form.Stored at binder ty argument) = Some (record { code = code; is_binding = false; ty = ty; argument = argument })
stored_at code (form.Binding at ty) = Some (record { code = code; is_binding = true; ty = ty; argument = argument.Required })
stored_at code other = None

abbrev pub slot_at : CodeId → SignatureForm → Option Part
slot_at code (form.State at ty argument) = Some (record { code = code; is_binding = false; ty = ty; argument = argument })
slot_at code other = None

abbrev pub part_at : CodeId → SignatureForm → Option Part
part_at code (form.State at ty argument) = slot_at code (form.State at ty argument)
part_at code other = stored_at code other

-- the fields of a data struct, or the inputs of a view, in order
abbrev pub inputs_of : List Signature → List Part
inputs_of = filter_map (λ s. stored_at s.code s.form)

-- the state slots of a view, in order
abbrev pub slots_of : List Signature → List Part
slots_of = filter_map (λ s. slot_at s.code s.form)

-- what an initialiser fills, in order
abbrev pub parts_of : List Signature → List Part
parts_of = filter_map (λ s. part_at s.code s.form)

-- what fills a property that is given no argument
abbrev pub initial_of : Argument → Option Initial
initial_of argument.Required = None
initial_of (argument.Optional i) = Some i
initial_of (argument.Never i) = Some i
