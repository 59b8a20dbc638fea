-- What `for` and ForEach go over. After The Swift Programming Language, 'For-In Loops'.
use Rattle.std.specs.Prelude.{◌≡◌, ℕ, List, [], ◌∷◌, Option, Some, None}
use denote.Ref.{Bor}
use Rattle.swift_ast.specs.declared.tree.BinarySign.{BinarySign}
use Rattle.swift_ast.specs.declared.tree.BinarySign.TheVariants as sign
use Rattle.swift_ast.specs.declared.tree.Expr.{Expr, out-Expr}
use Rattle.swift_ast.specs.declared.tree.ExprForm.{out-ExprForm}
use Rattle.swift_ast.specs.declared.tree.Link.{Link, out-Link}
use Rattle.swift_ast.specs.declared.tree.ArgValue.TheOpen.{ExprForm-F}
use Rattle.swift_core.specs.declared.ty.Ty.{Ty, out-Ty}
use Rattle.swift_core.specs.declared.ty.Ty.TheVariants as ty
use Rattle.swift_core.specs.declared.term.Core.{Core}
use Rattle.swift_core.specs.declared.stmt.Over.{Over}
use Rattle.swift_core.specs.declared.stmt.Over.TheVariants as over
use Rattle.swift_core.specs.Types.{element_at}
use Rattle.type_base.specs.Claims.{Reads, Then, Else, and_then, or_else, reads_give, reads_then, reads_else, reads_is, reads_none}
use Rattle.type_base.specs.Context.{Context}
use Rattle.type_base.specs.Rules.{PartRule, FindPart, ExactPart}
use Rattle.value_rules.specs.Values.{Typed, infer, infer_exact, TypedWanted, infer_wanted, wanted_exact}
use Rattle.value_rules.specs.Values.{TypedIndices, infer_indices, indices_exact}
use Rattle.case_rules.specs.Layers.{ExprLayer}

-- what is gone over, and the type of its items
abbrev pub Gone : Type 0
Gone = Over × Ty

-- a range, open at its end or not
-- the sign, the left and the right operand of a chain of one operator
abbrev pub one_link : Expr → List Link → Option (BinarySign × (Expr × Expr))
one_link a [] = None
one_link a (l ∷ []) = Some ((out-Link l).sign, (a, (out-Link l).right))
one_link a (l ∷ m ∷ rest) = None

abbrev pub link_at : ExprLayer → Option (BinarySign × (Expr × Expr))
link_at (ExprForm-F.Chain a links) = one_link a links
link_at _ = None

-- a range from a to b, both of Int
unfoldable pub Ranged : (Core → Core → Over) → Expr → Expr → PartRule Gone
Ranged make a b cx r =
    (x : Core) × TypedWanted a ty.Int cx x ×
    ((y : Core) × TypedWanted b ty.Int cx y ×
    (r ≡ (make x y, ty.Int)))

unfoldable pub ranged : (Core → Core → Over) → Expr → Expr → FindPart Gone
ranged make a b cx = and_then (infer_wanted a ty.Int cx) (λ x. and_then (infer_wanted b ty.Int cx) (λ y. Some (make x y, ty.Int)))

-- `l.indices` of a list l
unfoldable pub Indexed : Expr → PartRule Gone
Indexed e cx r = (l : Core) × TypedIndices e cx l × (r ≡ (over.Indices l, ty.Int))

unfoldable pub indexed : Expr → FindPart Gone
indexed e cx = and_then (infer_indices e cx) (λ l. Some (over.Indices l, ty.Int))

-- a list
unfoldable pub Listed : Expr → PartRule Gone
Listed e cx r =
    (x : Core × Ty) × Typed e cx None x ×
    ((t : Ty) × (element_at (out-Ty x.1) ≡ Some t) ×
    (r ≡ (over.List x.0, t)))

unfoldable pub listed : Expr → FindPart Gone
listed e cx = and_then (infer e cx None) (λ x. and_then (element_at (out-Ty x.1)) (λ t. Some (over.List x.0, t)))

-- the indices of a list, and else a list
unfoldable pub NoRange : Expr → PartRule Gone
NoRange e cx = Else (Indexed e cx) (Listed e cx)

unfoldable pub no_range : Expr → FindPart Gone
no_range e cx = or_else (indexed e cx) (listed e cx)

abbrev pub over_rule : Option (BinarySign × (Expr × Expr)) → Expr → PartRule Gone
over_rule (Some (sign.UpTo, (a, b))) e = Ranged over.UpTo a b
over_rule (Some (sign.Through, (a, b))) e = Ranged over.Through a b
over_rule _ e = NoRange e

abbrev pub over_at : Option (BinarySign × (Expr × Expr)) → Expr → FindPart Gone
over_at (Some (sign.UpTo, (a, b))) e = ranged over.UpTo a b
over_at (Some (sign.Through, (a, b))) e = ranged over.Through a b
over_at _ e = no_range e

unfoldable pub OverRule : Expr → PartRule Gone
OverRule e = over_rule (link_at (out-ExprForm (out-Expr e).form)) e

unfoldable pub find_over : Expr → FindPart Gone
find_over e = over_at (link_at (out-ExprForm (out-Expr e).form)) e

ranged_exact : (make : Core → Core → Over) (a b : Expr) → ExactPart (ranged make a b) (Ranged make a b)
unfolding ranged Ranged Then
ranged_exact make a b cx = reads_then (wanted_exact a ty.Int cx) (λ x. reads_then (wanted_exact b ty.Int cx) (λ y. reads_give _))

indexed_exact : (e : Expr) → ExactPart (indexed e) (Indexed e)
unfolding indexed Indexed Then
indexed_exact e cx = reads_then (indices_exact e cx) (λ l. reads_give _)

listed_exact : (e : Expr) → ExactPart (listed e) (Listed e)
unfolding listed Listed Then
listed_exact e cx = reads_then (infer_exact e cx None) (λ x. reads_then (reads_is _) (λ t. reads_give _))

no_range_exact : (e : Expr) → ExactPart (no_range e) (NoRange e)
unfolding no_range NoRange
no_range_exact e cx = reads_else (indexed_exact e cx) (listed_exact e cx)

exact_at : (o : Option (BinarySign × (Expr × Expr))) (e : Expr) → ExactPart (over_at o e) (over_rule o e)
exact_at (Some (sign.UpTo, (a, b))) e = ranged_exact over.UpTo a b
exact_at (Some (sign.Through, (a, b))) e = ranged_exact over.Through a b
exact_at _ e = no_range_exact e

pub over_exact : (e : Expr) → ExactPart (find_over e) (OverRule e)
unfolding find_over OverRule
over_exact e = exact_at (link_at (out-ExprForm (out-Expr e).form)) e

-- the sign and the right operand that the code has found, where the left operand is a
abbrev pub LinkIs : Option (BinarySign × Bor Expr) → Expr → Option (BinarySign × (Expr × Expr)) → Type 0
LinkIs None a found = found ≡ None
LinkIs (Some r) a found = found ≡ Some (r.0, (a, r.1.now))
