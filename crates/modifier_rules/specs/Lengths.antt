-- Lengths: where one is expected `.infinity` stands for the greatest.
use Rattle.std.specs.Prelude.{◌≡◌, ℕ, ◌-◌, ◌<◌, zero, suc, pos, Some, None, Result, codes, if◌then◌else◌}
use Rattle.std.specs.Str.{bytes_eq}
use Rattle.std.proofs.Common.{ap, subst, arith}
use Rattle.sv_value.specs.declared.value.Value.TheVariants as value
use Rattle.swift_ast.specs.declared.tree.Expr.{Expr, out-Expr}
use Rattle.swift_ast.specs.declared.tree.ExprForm.{out-ExprForm}
use Rattle.swift_ast.specs.declared.tree.ArgValue.TheOpen.{ExprForm-F}
use Rattle.swift_core.specs.declared.ty.Ty.TheVariants as ty
use Rattle.swift_core.specs.declared.term.Core.{Core}
use Rattle.swift_core.specs.declared.term.Core.TheVariants as core
use Rattle.type_base.specs.Claims.{Then, and_then, reads_then, reads_give, reads_none}
use Rattle.type_base.specs.Context.{Context}
use Rattle.type_base.specs.Rules.{PartRule, FindPart, ExactPart, Answers}
use Rattle.type_base.specs.declared.fault.Fault.{Fault}
use Rattle.value_rules.specs.Values.{TypedWanted, infer_wanted, wanted_exact}

-- how deep expressions nest at most
unfoldable pub levels : ℕ
levels = 5000

pub data LengthForm : Type 0 where
  Infinity : LengthForm
  Either : Expr → Expr → Expr → LengthForm
  Number : LengthForm

abbrev pub length_form : Expr → LengthForm
length_form e = elim (out-ExprForm (out-Expr e).form) [
  | ExprForm-F.Implicit w ↦ (if bytes_eq w (codes "infinity") then Infinity else Number)
  | ExprForm-F.Ternary c a b ↦ Either c a b
  | _ ↦ Number
]

abbrev pub infinity : Core
infinity = core.Literal (value.Int (pos 1000000))

-- `.infinity`, a ternary of two lengths, or an Int; k is the rule of the lengths inside
unfoldable pub LengthBy : (Expr → PartRule Core) → Expr → LengthForm → PartRule Core
LengthBy k e Infinity cx r = r ≡ infinity
LengthBy k e (Either c a b) cx r =
    (test : Core) × TypedWanted c ty.Bool cx test ×
    ((x : Core) × k a cx x ×
    ((y : Core) × k b cx y ×
    (r ≡ core.Choose test x y)))
LengthBy k e Number cx r = TypedWanted e ty.Int cx r

unfoldable pub length_by : (Expr → FindPart Core) → Expr → LengthForm → FindPart Core
length_by f e Infinity cx = Some infinity
length_by f e (Either c a b) cx =
    and_then (infer_wanted c ty.Bool cx) (λ test.
    and_then (f a cx) (λ x.
    and_then (f b cx) (λ y.
    Some (core.Choose test x y))))
length_by f e Number cx = infer_wanted e ty.Int cx

unfoldable pub LengthTo : ℕ → Expr → PartRule Core
LengthTo zero e cx r = ⊥
LengthTo (suc n) e cx r = LengthBy (LengthTo n) e (length_form e) cx r

unfoldable pub length_to : ℕ → Expr → FindPart Core
length_to zero e cx = None
length_to (suc n) e cx = length_by (length_to n) e (length_form e) cx

-- a length
unfoldable pub Length : Expr → PartRule Core
Length = LengthTo levels

unfoldable pub find_length : Expr → FindPart Core
find_length = length_to levels

-- ---- laws

length_by_exact : {f : Expr → FindPart Core} {k : Expr → PartRule Core} → ((e : Expr) → ExactPart (f e) (k e)) → (e : Expr) (form : LengthForm) → ExactPart (length_by f e form) (LengthBy k e form)
unfolding length_by LengthBy Then
length_by_exact h e Infinity cx = reads_give _
length_by_exact h e (Either c a b) cx = reads_then (wanted_exact c ty.Bool cx) (λ test. reads_then (h a cx) (λ x. reads_then (h b cx) (λ y. reads_give _)))
length_by_exact h e Number cx = wanted_exact e ty.Int cx

length_to_exact : (n : ℕ) (e : Expr) → ExactPart (length_to n e) (LengthTo n e)
unfolding length_to LengthTo
length_to_exact zero e cx = reads_none
length_to_exact (suc n) e cx = length_by_exact (length_to_exact n) e (length_form e) cx

pub length_exact : (e : Expr) → ExactPart (find_length e) (Length e)
unfolding find_length Length
length_exact e = length_to_exact levels e

-- one level of the search
pub answers_none : (room : ℕ) (e : Expr) (cx : Context) → room ≡ 0 → length_to room e cx ≡ None
unfolding length_to
answers_none room e cx h = ap (λ n. length_to n e cx) h

at_suc : (result : Result Core Fault) (m n : ℕ) (e : Expr) (cx : Context) → suc m ≡ n → Answers result (length_by (length_to m) e (length_form e) cx) → Answers result (length_to n e cx)
unfolding length_to
at_suc result m n e cx h p = subst (λ k. Answers result (length_to k e cx)) h p

pub answers_level : (result : Result Core Fault) (room : ℕ) (e : Expr) (cx : Context) → 0 < room → Answers result (length_by (length_to (room - 1)) e (length_form e) cx) → Answers result (length_to room e cx)
answers_level result room e cx h p = at_suc result (room - 1) room e cx (omega arith) p
