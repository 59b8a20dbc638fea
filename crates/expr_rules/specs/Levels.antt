-- The rule of an expression, by its form, and by how deep its forms nest.
use Rattle.std.specs.Prelude.{◌≡◌, ◌-◌, ℕ, zero, suc, Bool, true, false, Option, Some, None}
use Rattle.std.proofs.Common.{refl, ap, arith, subst, sym}
use Rattle.sv_value.specs.declared.value.Value.TheVariants as value
use Rattle.swift_ast.specs.declared.tree.ArgValue.TheOpen.{ExprForm-F}
use Rattle.swift_ast.specs.declared.tree.Expr.{Expr}
use Rattle.swift_core.specs.declared.term.Core.{Core}
use Rattle.swift_core.specs.declared.ty.Ty.{Ty}
use Rattle.swift_core.specs.declared.ty.Ty.TheVariants as ty
use Rattle.type_base.specs.Claims.{Reads, Then, and_then, when, reads_none, reads_give, reads_then, reads_when, reads_same, reads_one, bool_is}
use Rattle.type_base.specs.Context.{Context}
use Rattle.type_base.specs.Depth.{is_shallow}
use Rattle.type_base.specs.Rules.{Rule, Infer, Exact}
use Rattle.expr_rules.specs.Ops.{Form, form_of, Constant, Nil, TextOf, Myself, Named, Implicit, Listed, Prefixed, Chained, Ternary}
use Rattle.expr_rules.specs.OpsSearch.{constant, nil, text, myself, named, implicit, listed, prefixed, chained, ternary}
use Rattle.expr_rules.specs.OpsExact.{constant_exact, nil_exact, text_exact, myself_exact, named_exact, implicit_exact, listed_exact, prefixed_exact, chained_exact, ternary_exact}
use Rattle.post_rules.specs.Chains.{Post, post}
use Rattle.post_rules.specs.Exacts.{post_exact}

-- the rule of each form, over the rules of the expressions inside; `$name` has no value
abbrev pub form_rule : (Expr → Rule) → Form → Rule
form_rule k (ExprForm-F.Ternary c a b) = Ternary (k c) (k a) (k b)
form_rule k (ExprForm-F.Chain e ls) = Chained k e ls
form_rule k (ExprForm-F.Prefix ss e) = Prefixed ss (k e)
form_rule k (ExprForm-F.Post e parts) = Post k e parts
form_rule k (ExprForm-F.Int n) = Constant (value.Int n) ty.Int
form_rule k (ExprForm-F.ExprForm::Text ss) = TextOf k ss
form_rule k ExprForm-F.True = Constant (value.Bool true) ty.Bool
form_rule k ExprForm-F.False = Constant (value.Bool false) ty.Bool
form_rule k ExprForm-F.Nil = Nil
form_rule k ExprForm-F.Itself = Myself
form_rule k (ExprForm-F.Name w) = Named w
form_rule k (ExprForm-F.Dollar w) = λ cx want r. ⊥
form_rule k (ExprForm-F.Implicit w) = Implicit w
form_rule k (ExprForm-F.List es) = Listed k es

abbrev pub form_search : (Expr → Infer) → Form → Infer
form_search f (ExprForm-F.Ternary c a b) = ternary (f c) (f a) (f b)
form_search f (ExprForm-F.Chain e ls) = chained f e ls
form_search f (ExprForm-F.Prefix ss e) = prefixed ss (f e)
form_search f (ExprForm-F.Post e parts) = post f e parts
form_search f (ExprForm-F.Int n) = constant (value.Int n) ty.Int
form_search f (ExprForm-F.ExprForm::Text ss) = text f ss
form_search f ExprForm-F.True = constant (value.Bool true) ty.Bool
form_search f ExprForm-F.False = constant (value.Bool false) ty.Bool
form_search f ExprForm-F.Nil = nil
form_search f ExprForm-F.Itself = myself
form_search f (ExprForm-F.Name w) = named w
form_search f (ExprForm-F.Dollar w) = λ cx want. None
form_search f (ExprForm-F.Implicit w) = implicit w
form_search f (ExprForm-F.List es) = listed f es

unfoldable pub expr_rule : (Expr → Rule) → Expr → Rule
expr_rule k e = form_rule k (form_of e)

unfoldable pub expr_search : (Expr → Infer) → Expr → Infer
expr_search f e = form_search f (form_of e)

-- an expression whose forms nest at most so deep; its type, as that of each expression inside, is no deeper than a type may be
unfoldable pub typed_to : ℕ → Expr → Rule
typed_to zero e cx want r = ⊥
typed_to (suc n) e cx want r = expr_rule (typed_to n) e cx want r × (is_shallow r.1 ≡ true)

unfoldable pub infer_to : ℕ → Expr → Infer
infer_to zero e cx want = None
infer_to (suc n) e cx want = and_then (expr_search (infer_to n) e cx want) (λ r. when (is_shallow r.1) (Some r))

-- ---- the search finds what the rule relates

module _ (f : Expr → Infer) (k : Expr → Rule) (exact : (e : Expr) → Exact (f e) (k e)) where
  form_exact : (F : Form) → Exact (form_search f F) (form_rule k F)
  form_exact (ExprForm-F.Ternary c a b) = ternary_exact (exact c) (exact a) (exact b)
  form_exact (ExprForm-F.Chain e ls) = chained_exact f k exact e ls
  form_exact (ExprForm-F.Prefix ss e) = prefixed_exact ss (exact e)
  form_exact (ExprForm-F.Post e parts) = post_exact f k exact e parts
  form_exact (ExprForm-F.Int n) = constant_exact _ _
  form_exact (ExprForm-F.ExprForm::Text ss) = text_exact f k exact ss
  form_exact ExprForm-F.True = constant_exact _ _
  form_exact ExprForm-F.False = constant_exact _ _
  form_exact ExprForm-F.Nil = nil_exact
  form_exact ExprForm-F.Itself = myself_exact
  form_exact (ExprForm-F.Name w) = named_exact w
  form_exact (ExprForm-F.Dollar w) = λ cx want. reads_none
  form_exact (ExprForm-F.Implicit w) = implicit_exact w
  form_exact (ExprForm-F.List es) = listed_exact f k exact es

  pub expr_exact : (e : Expr) → Exact (expr_search f e) (expr_rule k e)
  unfolding expr_search expr_rule
  expr_exact e = form_exact (form_of e)

pub reads_kept : {A : Type 0} {o : Option A} {P : A → Type 0} (b : A → Bool) → Reads o P → Reads (and_then o (λ x. when (b x) (Some x))) (λ x. P x × (b x ≡ true))
unfolding Then
reads_kept {A = A} {P = P} b h = reads_same (reads_then h (λ x. reads_when bool_is (reads_give x)))
    (λ y. (λ w. subst (λ (v : A). P v × (b v ≡ true)) (sym w.2.1) (w.1, w.2.0), λ w. (y, w.0, (w.1, refl))))

pub exact_to : (n : ℕ) (e : Expr) → Exact (infer_to n e) (typed_to n e)
unfolding infer_to typed_to
exact_to zero e cx want = reads_none
exact_to (suc n) e cx want = reads_kept (λ r. is_shallow r.1) (expr_exact (infer_to n) (typed_to n) (exact_to n) e cx want)

-- an expression has one core and one type at most
pub one_value_to : (n : ℕ) (e : Expr) (cx : Context) (want : Option Ty) (x y : Core × Ty) → typed_to n e cx want x → typed_to n e cx want y → x ≡ y
one_value_to n e cx want = reads_one (exact_to n e cx want)

-- ---- one level of the search

pub infer_none : (n : ℕ) (e : Expr) (cx : Context) (want : Option Ty) → n ≡ 0 → infer_to n e cx want ≡ None
unfolding infer_to
infer_none n e cx want z = ap (λ m. infer_to m e cx want) z

pub infer_opens : (n : ℕ) (e : Expr) (cx : Context) (want : Option Ty) → (n ≡ 0 → ⊥)
    → infer_to n e cx want ≡ and_then (expr_search (infer_to (n - 1)) e cx want) (λ r. when (is_shallow r.1) (Some r))
unfolding infer_to
infer_opens zero e cx want ne = absurd (ne refl)
infer_opens (suc n) e cx want ne = let h : n ≡ suc n - 1 = omega arith in ap (λ m. and_then (expr_search (infer_to m) e cx want) (λ r. when (is_shallow r.1) (Some r))) h
