-- The values of a type.
use Rattle.std.specs.Prelude.{◌≡◌, ℕ, ℤ, ◌<◌, Bool, List, [], ◌∷◌, Option, Some, None, slice_get}
use Rattle.sv_value.specs.declared.value.Value.{Value, out-Value}
use Rattle.sv_value.specs.declared.value.Value.TheOpen.{Value-F}
use Rattle.swift_core.specs.declared.ty.Ty.{Ty, out-Ty}
use Rattle.swift_core.specs.declared.ty.Ty.TheOpen.{Ty-F}
use Rattle.swift_core.specs.declared.table.Table.{Table}
use Rattle.swift_core.specs.declared.table.Declaration.{Declaration}
use Rattle.swift_core.specs.declared.table.Kind.TheVariants as kind
use Rattle.swift_core.specs.Context.{Part, inputs_of}

mutual
  -- A number, a truth value and a string have their types. A list has values of one type, and a filled optional has one. A
  -- struct has a value for each stored property of its declaration, in order. A case is one of those of its enum.
  pub data HasValueAt (table : Table) : Ty-F Ty → Value-F Value → Type 0 where
    number : {n : ℤ} → HasValueAt table Ty-F.Int (Value-F.Int n)
    truth : {b : Bool} → HasValueAt table Ty-F.Bool (Value-F.Bool b)
    text : {w : List ℕ} → HasValueAt table Ty-F.Text (Value-F.Str w)
    list : {t : Ty} {vs : List Value} → AllHaveValue table t vs → HasValueAt table (Ty-F.List t) (Value-F.List vs)
    nothing : (t : Ty) → HasValueAt table (Ty-F.Optional t) (Value-F.Opt None)
    filled : {t : Ty} {v : Value} → HasValueAt table (out-Ty t) (out-Value v) → HasValueAt table (Ty-F.Optional t) (Value-F.Opt (Some v))
    made : {d : ℕ} {names_identifiable : Bool} {declaration : Declaration} {vs : List Value}
        → slice_get table.declarations d ≡ Some declaration
        → declaration.kind ≡ kind.Data names_identifiable
        → FieldsHaveValue table (inputs_of declaration.members) vs
        → HasValueAt table (Ty-F.Named d) (Value-F.Struct d vs)
    case : {d cases place : ℕ} {names_all : Bool} {declaration : Declaration}
        → slice_get table.declarations d ≡ Some declaration
        → declaration.kind ≡ kind.Enum names_all cases
        → place < cases
        → HasValueAt table (Ty-F.Named d) (Value-F.Case d place)

  -- each value has the type
  pub data AllHaveValue (table : Table) : Ty → List Value → Type 0 where
    no_values : (t : Ty) → AllHaveValue table t []
    more_values : {t : Ty} {v : Value} {vs : List Value} → HasValueAt table (out-Ty t) (out-Value v) → AllHaveValue table t vs → AllHaveValue table t (v ∷ vs)

  -- each value has the type of the field in its place
  pub data FieldsHaveValue (table : Table) : List Part → List Value → Type 0 where
    no_fields : FieldsHaveValue table [] []
    more_fields : {p : Part} {ps : List Part} {t : Ty} {v : Value} {vs : List Value}
        → p.ty ≡ Some t → HasValueAt table (out-Ty t) (out-Value v) → FieldsHaveValue table ps vs → FieldsHaveValue table (p ∷ ps) (v ∷ vs)

-- a value has a type
abbrev pub HasValue : Table → Ty → Value → Type 0
HasValue table t v = HasValueAt table (out-Ty t) (out-Value v)
