-- Types of values: their parts, how deep they are, and when two are the same.
use Rattle.std.specs.Prelude.{◌≡◌, ℕ, ◌+◌, Bool, Option, Some, None}
use Rattle.std.specs.Bool.{Decides}
use Rattle.std.specs.Ordering.{eq_by_cmp}
use Rattle.identity_path.specs.Code.{code_cmp, code_eq_decides}
use Rattle.swift_core.specs.contracts.ty.Ty as one
use Rattle.swift_core.specs.declared.ty.Ty.{Ty, out-Ty, fold-Ty}
use Rattle.swift_core.specs.declared.ty.Ty.TheOpen.{Ty-F}

-- the type inside an optional type
abbrev pub inside_at : Ty-F Ty → Option Ty
inside_at (Ty-F.Optional t) = Some t
inside_at _ = None

-- the type of the elements of a list type
abbrev pub element_at : Ty-F Ty → Option Ty
element_at (Ty-F.List t) = Some t
element_at _ = None

-- the declaration that a type names
abbrev pub named_at : Ty-F Ty → Option ℕ
named_at (Ty-F.Named d) = Some d
named_at _ = None

-- two types are the same
unfoldable pub same_ty : Ty → Ty → Bool
same_ty = eq_by_cmp (code_cmp one.the_row.coded)

pub same_ty_decides : (t u : Ty) → Decides (same_ty t u) (t ≡ u)
unfolding same_ty
same_ty_decides = code_eq_decides one.the_row.coded
