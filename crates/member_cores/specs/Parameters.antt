-- The parameters of a function as locals.
use Rattle.std.specs.Prelude.{◌≡◌, suc, List, [], ◌∷◌, ◌++◌, length, map, ◌&&◌, Some}
use Rattle.std.proofs.Common.{refl, sym, ap, ◌∙◌}
use Rattle.std.proofs.lemmas.List.{append-nil, append_assoc}
use Rattle.swift_ast.specs.declared.piece.Param.{Param}
use Rattle.swift_core.specs.Context as cores
use Rattle.swift_core.specs.declared.table.ParamSignature.{ParamSignature}
use Rattle.swift_core.specs.declared.ty.Ty.{Ty}
use Rattle.type_base.specs.Claims.{some_is}
use Rattle.type_base.specs.Context.{Context}
use Rattle.type_base.specs.Names.{is_new}
use Rattle.type_base.specs.Scopes.{with_local}
use Rattle.type_base.specs.declared.scope.LocalKind.TheVariants as local
use Rattle.member_rules.specs.Members.{parameter, with_parameters, same_as, inout_type, next_type, with_folding}
use Rattle.expr_cores.specs.Contexts.{core_locals}
use Rattle.post_cores.specs.Members.{found_so, when_so}
use Rattle.stmt_cores.specs.Conditions.{one_more}

-- the parameters have types, and are locals of these types behind those before them
pub record AreParameters (signatures : List ParamSignature) (params : List Param) (cx inner : Context) : Type 0 where
  pub types : List Ty
  pub written : map (λ (p : ParamSignature). p.ty) signatures ≡ map Some types
  pub count : length params ≡ length types
  pub same : inner ≡ record cx { locals = inner.locals }
  pub locals : core_locals inner.locals ≡ core_locals cx.locals ++ map cores.Local.valued types

no_more : (cx inner : Context) → cx ≡ inner → AreParameters [] [] cx inner
no_more cx inner e = record {
  types = [];
  written = refl;
  count = refl;
  same = sym e ∙ ap (λ (x : Context). record cx { locals = x.locals }) e;
  locals = ap (λ (x : Context). core_locals x.locals) (sym e) ∙ sym (append-nil (core_locals cx.locals));
}

one_before : (s : ParamSignature) (ss : List ParamSignature) (p : Param) (ps : List Param) (t : Ty) (cx inner : Context) → s.ty ≡ Some t
    → AreParameters ss ps (with_local cx (parameter p local.Let t)) inner → AreParameters (s ∷ ss) (p ∷ ps) cx inner
one_before s ss p ps t cx inner e r = record {
  types = t ∷ r.types;
  written = let w = r.written in λ i. e i ∷ w i;
  count = ap suc r.count;
  same = r.same;
  locals =
      r.locals ∙ ap (λ (xs : List cores.Local). xs ++ map cores.Local.valued r.types) (one_more cx.locals (parameter p local.Let t))
      ∙ append_assoc (core_locals cx.locals) (cores.Local.valued t ∷ []) (map cores.Local.valued r.types);
}

pub parameters_good : (signatures : List ParamSignature) (params : List Param) (cx inner : Context) → with_parameters signatures params cx ≡ Some inner → AreParameters signatures params cx inner
parameters_good [] [] cx inner e = no_more cx inner (some_is cx inner e)
parameters_good (s ∷ ss) (p ∷ ps) cx inner e =
    found_so (AreParameters (s ∷ ss) (p ∷ ps) cx inner) e (λ t st g.
    one_before s ss p ps t cx inner st (parameters_good ss ps (with_local cx (parameter p local.Let t)) inner (when_so (is_new p.name cx) _ g)))
parameters_good [] (p ∷ ps) cx inner e = cc
parameters_good (s ∷ ss) [] cx inner e = cc

-- the two parameters of `reduce`
abbrev pub folding : Ty → Param → Param → Context → Context
folding t p q cx = with_local (with_local cx (parameter p local.Var t)) (parameter q local.Next t)

pub folding_good : (t : Ty) (params : List Param) (cx inner : Context) → with_folding t params cx ≡ Some inner → (p : Param) × ((q : Param) × (inner ≡ folding t p q cx))
folding_good t (p ∷ q ∷ []) cx inner e =
    let a = when_so (same_as (inout_type cx.table p.form) t && same_as (next_type cx.table q.form) t) _ e in
    let b = when_so (is_new p.name cx) _ a in
    let c = when_so (is_new q.name (with_local cx (parameter p local.Var t))) _ b in
    (p, (q, sym (some_is (folding t p q cx) inner c)))
folding_good t [] cx inner e = cc
folding_good t (p ∷ []) cx inner e = cc
folding_good t (p ∷ q ∷ r ∷ params) cx inner e = cc
