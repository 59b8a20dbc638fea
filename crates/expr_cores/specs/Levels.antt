-- What the rule of an expression relates is well typed, at each level, where this is so of chains of postfix parts.
use Rattle.std.specs.Prelude.{ℕ, zero, suc, true, false, List}
use Rattle.sv_value.specs.declared.value.Value.TheVariants as value
use Rattle.swift_ast.specs.declared.tree.ArgValue.TheOpen.{ExprForm-F}
use Rattle.swift_ast.specs.declared.tree.Expr.{Expr}
use Rattle.swift_ast.specs.declared.tree.Part.{Part}
use Rattle.swift_core.specs.declared.ty.Ty.TheVariants as ty
use Rattle.type_base.specs.Rules.{Rule}
use Rattle.post_rules.specs.Chains.{Post}
use Rattle.expr_rules.specs.Ops.{Form, form_of}
use Rattle.expr_rules.specs.Levels.{form_rule, expr_rule, typed_to}
use Rattle.expr_cores.specs.Contexts.{Good}
use Rattle.expr_cores.specs.Names.{named_good, implicit_good}
use Rattle.expr_cores.specs.Ops.{constant_good, int_value, bool_value, nil_good, text_good, listed_good, myself_good, prefixed_good, chained_good, ternary_good}

-- chains of postfix parts relate well typed cores where the expressions inside do
abbrev pub PostGood : Type 1
PostGood = (k : Expr → Rule) → ((e : Expr) → Good (k e)) → (e : Expr) (parts : List Part) → Good (Post k e parts)

module _ (post : PostGood) where
  form_good : (k : Expr → Rule) → ((e : Expr) → Good (k e)) → (F : Form) → Good (form_rule k F)
  form_good k good (ExprForm-F.Ternary c a b) = ternary_good (good c) (good a) (good b)
  form_good k good (ExprForm-F.Chain e ls) = chained_good k good e ls
  form_good k good (ExprForm-F.Prefix ss e) = prefixed_good ss (good e)
  form_good k good (ExprForm-F.Post e parts) = post k good e parts
  form_good k good (ExprForm-F.Int n) = constant_good (value.Int n) ty.Int (int_value n)
  form_good k good (ExprForm-F.ExprForm::Text ss) = text_good k good ss
  form_good k good ExprForm-F.True = constant_good (value.Bool true) ty.Bool (bool_value true)
  form_good k good ExprForm-F.False = constant_good (value.Bool false) ty.Bool (bool_value false)
  form_good k good ExprForm-F.Nil = nil_good
  form_good k good ExprForm-F.Itself = myself_good
  form_good k good (ExprForm-F.Name w) = named_good w
  form_good k good (ExprForm-F.Dollar w) = λ blocks cx want r fit h. absurd h
  form_good k good (ExprForm-F.Implicit w) = implicit_good w
  form_good k good (ExprForm-F.List es) = listed_good k good es

  pub typed_has : (n : ℕ) (e : Expr) → Good (typed_to n e)
  unfolding typed_to expr_rule
  typed_has zero e blocks cx want r fit h = absurd h
  typed_has (suc n) e blocks cx want r fit (h, s) = form_good (typed_to n) (typed_has n) (form_of e) blocks cx want r fit h
