-- What the search of an expression finds around an initial value has a type of values.
use Rattle.std.specs.Prelude.{◌≡◌, ℕ, zero, suc, true, false, Option, Some}
use Rattle.std.specs.Option.{option_map}
use Rattle.std.proofs.Common.{refl, subst}
use Rattle.sv_value.specs.declared.value.Value.TheVariants as value
use Rattle.swift_ast.specs.declared.tree.ArgValue.TheOpen.{ExprForm-F}
use Rattle.swift_ast.specs.declared.tree.Expr.{Expr}
use Rattle.swift_core.specs.declared.term.Core.{Core}
use Rattle.swift_core.specs.declared.ty.Ty.{Ty}
use Rattle.swift_core.specs.declared.ty.Ty.TheVariants as ty
use Rattle.type_base.specs.Claims.{some_is}
use Rattle.type_base.specs.Context.{Context}
use Rattle.type_base.specs.Rules.{Rule}
use Rattle.expr_rules.specs.Ops.{Form, form_of}
use Rattle.expr_rules.specs.Levels.{form_rule, expr_rule, typed_to}
use Rattle.value_rules.specs.Values.{levels, Typed, infer, infer_exact}
use Rattle.value_types.specs.Types.{Of, OptionOf, int_of, bool_of}
use Rattle.value_types.specs.Exprs.{Around, Keeps, constant_keeps, nil_keeps, text_keeps, myself_keeps, named_keeps, implicit_keeps, listed_keeps, prefixed_keeps, chained_keeps, ternary_keeps}
use Rattle.value_types.specs.Posts.{post_keeps}

form_keeps : (k : Expr → Rule) → ((e : Expr) → Keeps (k e)) → (F : Form) → Keeps (form_rule k F)
form_keeps k keeps (ExprForm-F.Ternary c a b) = ternary_keeps (k c) (k a) (k b) (keeps a)
form_keeps k keeps (ExprForm-F.Chain e ls) = chained_keeps k keeps e ls
form_keeps k keeps (ExprForm-F.Prefix ss e) = prefixed_keeps ss (keeps e)
form_keeps k keeps (ExprForm-F.Post e parts) = post_keeps k keeps e parts
form_keeps k keeps (ExprForm-F.Int n) = constant_keeps (value.Int n) ty.Int int_of
form_keeps k keeps (ExprForm-F.ExprForm::Text ss) = text_keeps k ss
form_keeps k keeps ExprForm-F.True = constant_keeps (value.Bool true) ty.Bool bool_of
form_keeps k keeps ExprForm-F.False = constant_keeps (value.Bool false) ty.Bool bool_of
form_keeps k keeps ExprForm-F.Nil = nil_keeps
form_keeps k keeps ExprForm-F.Itself = myself_keeps
form_keeps k keeps (ExprForm-F.Name w) = named_keeps w
form_keeps k keeps (ExprForm-F.Dollar w) = λ cx want r a o h. absurd h
form_keeps k keeps (ExprForm-F.Implicit w) = implicit_keeps w
form_keeps k keeps (ExprForm-F.List es) = listed_keeps k keeps es

typed_keeps : (n : ℕ) (e : Expr) → Keeps (typed_to n e)
unfolding typed_to expr_rule
typed_keeps zero e cx want r a o h = absurd h
typed_keeps (suc n) e cx want r a o (h, s) = form_keeps (typed_to n) (typed_keeps n) (form_of e) cx want r a o h

-- Around an initial value, where a type of values is expected or none, what is found has a type of values.
abbrev pub InferOfValues : Type 0
InferOfValues = (e : Expr) (cx : Context) (want : Option Ty) (r : Core × Ty) → Around cx → OptionOf cx.table want → infer e cx want ≡ Some r → Of cx.table r.1

pub infer_of_values : InferOfValues
unfolding Typed
infer_of_values e cx want r a o h = typed_keeps levels e cx want r a o ((infer_exact e cx want r).0 h)
