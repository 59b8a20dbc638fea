-- What it is to have a type, by the forms of the type and the value: one level at a time.
use Rattle.std.specs.Prelude.{◌≡◌, ℕ, ◌<◌, Bool, true, false, List, Option, Some, None, slice_get, ⊤}
use Rattle.sv_value.specs.declared.value.Value.{Value}
use Rattle.sv_value.specs.declared.value.Value.TheOpen.{Value-F}
use Rattle.swift_core.specs.declared.ty.Ty.{Ty}
use Rattle.swift_core.specs.declared.ty.Ty.TheOpen.{Ty-F}
use Rattle.swift_core.specs.declared.table.Declaration.{Declaration}
use Rattle.swift_core.specs.declared.table.Kind.{Kind}
use Rattle.swift_core.specs.declared.table.Kind.TheVariants as kind
use Rattle.swift_core.specs.declared.table.Signature.{Signature}
use Rattle.swift_core.specs.declared.table.SignatureForm.{SignatureForm}
use Rattle.swift_core.specs.declared.table.SignatureForm.TheVariants as form
use Rattle.swift_core.specs.declared.table.Table.{Table}
use Rattle.swift_core.specs.Context.{inputs_of}
use Rattle.swift_core.specs.Values.{HasValue, AllHaveValue, FieldsHaveValue}

-- ---- declarations

abbrev pub data_in : Declaration → Kind → Option Declaration
data_in declaration (kind.Data b) = Some declaration
data_in declaration other = None

abbrev pub data_at : Option Declaration → Option Declaration
data_at None = None
data_at (Some declaration) = data_in declaration declaration.kind

-- the data struct with this number
abbrev pub data_of : Table → ℕ → Option Declaration
data_of table number = data_at (slice_get table.declarations number)

abbrev pub cases_in : Kind → ℕ
cases_in (kind.Enum names_all cases) = cases
cases_in other = 0

-- the number of cases of an enum
abbrev pub cases_at : Option Declaration → ℕ
cases_at None = 0
cases_at (Some declaration) = cases_in declaration.kind

-- the members of a declaration that have values in it: its stored properties and its bindings
abbrev pub is_input : SignatureForm → Bool
is_input (form.Stored n b t a) = true
is_input (form.Binding n t) = true
is_input other = false

abbrev pub type_of_input : SignatureForm → Option Ty
type_of_input (form.Stored n b t a) = t
type_of_input (form.Binding n t) = t
type_of_input other = None

abbrev pub type_of_member : Option Signature → Option Ty
type_of_member None = None
type_of_member (Some s) = type_of_input s.form

-- at this place stands such a member, or none at all
unfoldable pub NoneSkipped : List Signature → ℕ → Type 0
NoneSkipped members at = (s : Signature) → slice_get members at ≡ Some s → is_input s.form ≡ true

-- ---- one level

-- the fields are those of the declaration
abbrev pub FieldsIn : Table → Option Declaration → List Value → Type 0
FieldsIn table None values = ⊥
FieldsIn table (Some declaration) values = FieldsHaveValue table (inputs_of declaration.members) values

-- the fields are those of the data struct that both numbers name
abbrev pub StructHas : Table → ℕ → ℕ → List Value → Type 0
StructHas table named number values = (named ≡ number) × FieldsIn table (data_of table number) values

-- the case is one of the enum that both numbers name
abbrev pub CaseHas : Table → ℕ → ℕ → ℕ → Type 0
CaseHas table named number place = (named ≡ number) × (place < cases_at (slice_get table.declarations number))

-- a value has a type, by the forms of both
abbrev pub LayerHas : Table → Ty-F Ty → Value-F Value → Type 0
LayerHas table Ty-F.Int (Value-F.Int n) = ⊤
LayerHas table Ty-F.Bool (Value-F.Bool b) = ⊤
LayerHas table Ty-F.Text (Value-F.Str w) = ⊤
LayerHas table (Ty-F.List t) (Value-F.List values) = AllHaveValue table t values
LayerHas table (Ty-F.Optional t) (Value-F.Opt None) = ⊤
LayerHas table (Ty-F.Optional t) (Value-F.Opt (Some v)) = HasValue table t v
LayerHas table (Ty-F.Named named) (Value-F.Struct number values) = StructHas table named number values
LayerHas table (Ty-F.Named named) (Value-F.Case number place) = CaseHas table named number place
LayerHas table t v = ⊥
