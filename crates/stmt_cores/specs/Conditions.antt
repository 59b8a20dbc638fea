-- What the rules of conditions and of what loops go over relate is well typed.
use Rattle.std.specs.Prelude.{◌≡◌, ℕ, List, [], ◌∷◌, ◌++◌, Option, Some, None}
use Rattle.std.proofs.Common.{sym, subst, inl, inr}
use Rattle.std.proofs.lemmas.List.{map-append, append-nil, append_assoc}
use Rattle.swift_ast.specs.declared.tree.ArgValue.TheOpen.{Condition-F}
use Rattle.swift_ast.specs.declared.tree.BinarySign.{BinarySign}
use Rattle.swift_ast.specs.declared.tree.BinarySign.TheVariants as sign
use Rattle.swift_ast.specs.declared.tree.Condition.{Condition, out-Condition}
use Rattle.swift_ast.specs.declared.tree.Expr.{Expr, out-Expr}
use Rattle.swift_ast.specs.declared.tree.ExprForm.{out-ExprForm}
use Rattle.swift_core.specs.Context as cores
use Rattle.swift_core.specs.Typing as typing
use Rattle.swift_core.specs.Typing.{Has, IsRange, IsOver}
use Rattle.swift_core.specs.declared.code.Code.{Code}
use Rattle.swift_core.specs.declared.stmt.Condition.{Condition as CoreCondition}
use Rattle.swift_core.specs.declared.ty.Ty.TheVariants as ty
use Rattle.type_base.specs.Claims.{Else}
use Rattle.type_base.specs.Context.{Context}
use Rattle.type_base.specs.declared.scope.Local.{Local}
use Rattle.type_base.specs.declared.scope.LocalKind.TheVariants.{Let}
use Rattle.case_rules.specs.Conditions.{Checked, CheckedAll, Tested, Bound, value_of, condition_rule, ConditionsRule}
use Rattle.case_rules.specs.Layers.{ConditionLayer}
use Rattle.case_rules.specs.Overs.{Gone, Ranged, Indexed, Listed, NoRange, over_rule, link_at, OverRule}
use Rattle.case_rules.specs.Scopes.{local, with_any, any_local}
use Rattle.expr_cores.specs.Contexts.{core_context, core_local, core_locals, Fits}
use Rattle.value_cores.specs.Values.{value_good, wanted_good, indices_good}

-- the local of the core, where there is one
abbrev pub local_of : Option Local → Option cores.Local
local_of None = None
local_of (Some l) = Some (core_local l.ty l.kind)

-- with one more local
pub one_more : (xs : List Local) (l : Local) → core_locals (xs ++ l ∷ []) ≡ core_locals xs ++ core_local l.ty l.kind ∷ []
one_more xs l = map-append (λ (x : Local). core_local x.ty x.kind) xs (l ∷ [])

pub fits_any : (cx : Context) (o : Option Local) → Fits cx.table → Fits (with_any cx o).table
fits_any cx None fit = fit
fits_any cx (Some l) fit = fit

module _ (blocks : List Code) where
  -- the rest of the conditions, in the context of those before them
  rest_in : (cx : Context) (o : Option Local) (r : CheckedAll)
      → typing.Conditions (core_context (with_any cx o) blocks) (core_locals (with_any cx o).locals) r.0 (core_locals ((with_any cx o).locals ++ r.1))
      → typing.Conditions (core_context cx blocks) (core_locals (with_any cx o).locals) r.0 (core_locals (cx.locals ++ (any_local o ++ r.1)))
  rest_in cx None r h = h
  rest_in cx (Some l) r h =
      subst (λ (ls : List Local). typing.Conditions (core_context cx blocks) (core_locals (cx.locals ++ l ∷ [])) r.0 (core_locals ls)) (append_assoc cx.locals (l ∷ []) r.1) h

  tested_then : (e : Expr) (cx : Context) (x : Checked) (cs : List CoreCondition) (after : List cores.Local) → Fits cx.table → Tested e cx x
      → typing.Conditions (core_context cx blocks) (core_locals (with_any cx x.1).locals) cs after → typing.Conditions (core_context cx blocks) (core_locals cx.locals) (x.0 ∷ cs) after
  unfolding Tested
  tested_then e cx x cs after fit (c, w, q) =
      subst (λ (y : Checked). typing.Conditions (core_context cx blocks) (core_locals (with_any cx y.1).locals) cs after → typing.Conditions (core_context cx blocks) (core_locals cx.locals) (y.0 ∷ cs) after) (sym q)
      (λ h. typing.Conditions.test (wanted_good e ty.Bool blocks cx c fit w) h)

  bound_then : (w : List ℕ) (e : Expr) (cx : Context) (x : Checked) (cs : List CoreCondition) (after : List cores.Local) → Fits cx.table → Bound w e cx x
      → typing.Conditions (core_context cx blocks) (core_locals (with_any cx x.1).locals) cs after → typing.Conditions (core_context cx blocks) (core_locals cx.locals) (x.0 ∷ cs) after
  unfolding Bound
  bound_then w e cx x cs after fit (y, a, (t, i, q)) =
      subst (λ (z : Checked). typing.Conditions (core_context cx blocks) (core_locals (with_any cx z.1).locals) cs after → typing.Conditions (core_context cx blocks) (core_locals cx.locals) (z.0 ∷ cs) after) (sym q)
      (λ h. typing.Conditions.bind (value_good e blocks cx None y fit a) i
      (subst (λ (ls : List cores.Local). typing.Conditions (core_context cx blocks) ls cs after) (one_more cx.locals (local w t Let)) h))

  condition_then : (c : ConditionLayer) (cx : Context) (x : Checked) (cs : List CoreCondition) (after : List cores.Local) → Fits cx.table → condition_rule c cx x
      → typing.Conditions (core_context cx blocks) (core_locals (with_any cx x.1).locals) cs after → typing.Conditions (core_context cx blocks) (core_locals cx.locals) (x.0 ∷ cs) after
  condition_then (Condition-F.Condition::Expr e) cx x cs after fit a = tested_then e cx x cs after fit a
  condition_then (Condition-F.Let w value) cx x cs after fit a = bound_then w (value_of w value) cx x cs after fit a

  -- conditions, and the locals that they add
  pub conditions_good : (cs : List Condition) (cx : Context) (r : CheckedAll) → Fits cx.table → ConditionsRule cs cx r
      → typing.Conditions (core_context cx blocks) (core_locals cx.locals) r.0 (core_locals (cx.locals ++ r.1))
  unfolding ConditionsRule
  conditions_good [] cx r fit e =
      subst (λ (y : CheckedAll). typing.Conditions (core_context cx blocks) (core_locals cx.locals) y.0 (core_locals (cx.locals ++ y.1))) (sym e)
      (subst (λ (ls : List Local). typing.Conditions (core_context cx blocks) (core_locals cx.locals) [] (core_locals ls)) (sym (append-nil cx.locals)) typing.Conditions.no_conditions)
  conditions_good (c ∷ cs) cx r fit (x, a, (rest, b, e)) =
      subst (λ (y : CheckedAll). typing.Conditions (core_context cx blocks) (core_locals cx.locals) y.0 (core_locals (cx.locals ++ y.1))) (sym e)
      (condition_then (out-Condition c) cx x rest.0 (core_locals (cx.locals ++ (any_local x.1 ++ rest.1))) fit a
      (rest_in cx x.1 rest (conditions_good cs (with_any cx x.1) rest (fits_any cx x.1 fit) b)))

  abbrev Over : Context → Gone → Type 0
  Over cx r = IsOver (core_context cx blocks) (core_locals cx.locals) r.0 r.1

  no_range_good : (e : Expr) (cx : Context) (r : Gone) → Fits cx.table → NoRange e cx r → Over cx r
  unfolding NoRange Else Indexed Listed
  no_range_good e cx r fit (inl (l, i, q)) = let g = indices_good e blocks cx l fit i in subst (Over cx) (sym q) (IsOver.range (IsRange.indices g.1 g.2.1))
  no_range_good e cx r fit (inr (n, (x, a, (t, i, q)))) = subst (Over cx) (sym q) (IsOver.elements (value_good e blocks cx None x fit a) i)

  rule_good : (o : Option (BinarySign × (Expr × Expr))) (e : Expr) (cx : Context) (r : Gone) → Fits cx.table → over_rule o e cx r → Over cx r
  unfolding Ranged
  rule_good (Some (sign.UpTo, (a, b))) e cx r fit (x, g, (y, h, q)) = subst (Over cx) (sym q) (IsOver.range (IsRange.up_to (wanted_good a ty.Int blocks cx x fit g) (wanted_good b ty.Int blocks cx y fit h)))
  rule_good (Some (sign.Through, (a, b))) e cx r fit (x, g, (y, h, q)) = subst (Over cx) (sym q) (IsOver.range (IsRange.through (wanted_good a ty.Int blocks cx x fit g) (wanted_good b ty.Int blocks cx y fit h)))
  rule_good _ e cx r fit h = no_range_good e cx r fit h

  -- what a loop goes over
  pub over_good : (e : Expr) (cx : Context) (r : Gone) → Fits cx.table → OverRule e cx r → IsOver (core_context cx blocks) (core_locals cx.locals) r.0 r.1
  unfolding OverRule
  over_good e cx r fit h = rule_good (link_at (out-ExprForm (out-Expr e).form)) e cx r fit h
