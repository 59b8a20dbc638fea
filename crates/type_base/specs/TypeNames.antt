-- The type that a type is written as.
-- After The Swift Programming Language, 'Types'.
use Rattle.std.specs.Prelude.{ℕ, suc, ◌+◌, List, Option, Some, codes, if◌then◌else◌, nat_le}
use Rattle.std.specs.Str.{bytes_eq}
use Rattle.swift_ast.specs.declared.type_name.TypeName.{TypeName, fold-TypeName}
use Rattle.swift_ast.specs.declared.type_name.TypeName.TheOpen.{TypeName-F}
use Rattle.swift_core.specs.declared.ty.Ty.{Ty}
use Rattle.swift_core.specs.declared.ty.Ty.TheVariants as ty
use Rattle.swift_core.specs.declared.table.Table.{Table}
use Rattle.type_base.specs.Claims.{and_then, when}
use Rattle.type_base.specs.Depth.{optional, deepest}
use Rattle.type_base.specs.Names.{declaration_of, is_data}

-- the type of a name: `Int`, `Bool` or `String`, or a data struct or enum; views, apps and keys are no types
unfoldable pub named_type : Table → List ℕ → Option Ty
named_type table w =
    if bytes_eq w (codes "Int") then Some ty.Int else
    if bytes_eq w (codes "Bool") then Some ty.Bool else
    if bytes_eq w (codes "String") then Some ty.Text else
    and_then (declaration_of w table) (λ d. when (is_data d.1.kind) (Some (ty.Named d.0)))

abbrev pub written_at : Table → TypeName-F (Option Ty) → Option Ty
written_at table (TypeName-F.Name w) = named_type table w
written_at table (TypeName-F.List t) = and_then t (λ t. Some (ty.List t))
written_at table (TypeName-F.Optional t n) = and_then t (λ t. Some (optional n t))

-- the type, however deep it is
unfoldable pub written_type : Table → TypeName → Option Ty
written_type table = fold-TypeName (Option Ty) (written_at table)

abbrev pub written_depth_at : TypeName-F ℕ → ℕ
written_depth_at (TypeName-F.Name w) = 1
written_depth_at (TypeName-F.List n) = suc n
written_depth_at (TypeName-F.Optional n k) = k + n

-- how deep a type is as it is written: each pair of brackets and each `?` counts one
unfoldable pub written_depth : TypeName → ℕ
written_depth = fold-TypeName ℕ written_depth_at

-- the type, which is no deeper than a type may be
unfoldable pub type_of : Table → TypeName → Option Ty
type_of table name = when (nat_le (written_depth name) deepest) (written_type table name)
