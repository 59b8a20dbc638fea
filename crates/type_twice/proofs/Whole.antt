-- The type of a name alone is never too deep.
use Rattle.std.proofs.Common.{◌≡◌, ℕ, Bool, true, cond, Option, Some, None, List, refl, sym, ap, subst, ◌∙◌, arith, nat_le}
use Rattle.swift_ast.specs.declared.type_name.TypeName.{TypeName, out-TypeName}
use Rattle.swift_ast.specs.declared.type_name.TypeName.TheOpen.{TypeName-F}
use Rattle.swift_ast.specs.declared.type_name.TypeName.TheFolds.{map-TypeName, fold_out-TypeName}
use Rattle.swift_core.specs.declared.ty.Ty.{Ty}
use Rattle.swift_core.specs.declared.table.Table.{Table}
use Rattle.type_base.specs.Claims.{when}
use Rattle.type_base.specs.Depth.{deepest}
use Rattle.type_base.specs.TypeNames.{type_of, written_type, written_depth, written_depth_at}

layer_depth : TypeName-F TypeName → ℕ
layer_depth l = written_depth_at (map-TypeName TypeName ℕ written_depth l)

depth_is : (name : TypeName) → written_depth name ≡ written_depth_at (map-TypeName TypeName ℕ written_depth (out-TypeName name))
unfolding written_depth
depth_is name = fold_out-TypeName ℕ written_depth_at name

pub whole_name : (table : Table) (name : TypeName) (w : List ℕ) → out-TypeName name ≡ TypeName-F.Name w → type_of table name ≡ written_type table name
unfolding type_of deepest
whole_name table name w e =
    let d : written_depth name ≡ 1 = depth_is name ∙ ap (λ l. written_depth_at (map-TypeName TypeName ℕ written_depth l)) e in
    ap (λ n. cond (nat_le n 64) (written_type table name) None) d
