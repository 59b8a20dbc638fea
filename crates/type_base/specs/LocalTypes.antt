-- What locals have, as the code that uses them says it.
use Rattle.std.specs.Prelude.{ℕ, List, [], ◌∷◌, Option, Some, None, slice_get}
use Rattle.std.specs.List.{flat_map}
use Rattle.swift_core.specs.declared.code.LocalType.{LocalType}
use Rattle.swift_core.specs.declared.code.LocalType.TheVariants as has
use Rattle.swift_core.specs.declared.ty.Ty.{Ty}
use Rattle.type_base.specs.declared.scope.Local.{Local}
use Rattle.type_base.specs.declared.scope.LocalKind.{LocalKind}
use Rattle.type_base.specs.declared.scope.LocalKind.TheVariants as kind

-- a local that holds a place has that place, and any other a value
abbrev pub kind_type : Ty → LocalKind → LocalType
kind_type t kind.Place = has.Place t
kind_type t kind.Let = has.Value t
kind_type t kind.Var = has.Value t
kind_type t kind.Next = has.Value t

abbrev pub local_type : Local → LocalType
local_type l = kind_type l.ty l.kind

abbrev pub one_type : Option Local → List LocalType
one_type None = []
one_type (Some l) = local_type l ∷ []

abbrev pub type_at : List Local → ℕ → List LocalType
type_at locals k = one_type (slice_get locals k)

-- what the locals at these places have, in order
abbrev pub types_at : List Local → List ℕ → List LocalType
types_at locals ks = flat_map (type_at locals) ks
