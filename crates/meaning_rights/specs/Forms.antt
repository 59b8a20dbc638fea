-- Each form, where the forms inside are right, and so all forms.
use Rattle.std.specs.Prelude.{◌≡◌, ℕ, zero, suc, ◌≤◌, Bool, true, false, List, [], ◌++◌, map, Option, Some, None, Ok, Err, ⊤, nat_le, if◌then◌else◌}
use Rattle.std.specs.List.{flat_map}
use Rattle.std.proofs.Common.{refl, sym, ap, subst, ◌∙◌, arith}
use Rattle.sv_value.specs.declared.value.Value.{Value, out-Value}
use Rattle.sv_value.specs.declared.value.Value.TheOpen.{Value-F}
use Rattle.sv_value.specs.Value.{weight}
use Rattle.swift_core.specs.Context.{Local}
use Rattle.swift_core.specs.Mentions.{joined, core_mentions, stmt_mentions, over_mentions, invocation_mentions, change_mentions, condition_mentions}
use Rattle.swift_core.specs.Types.{element_at}
use Rattle.swift_core.specs.Typing.{Has, Statement, IsRange, Invokes, Changes, Within, Flow as HowItEnds, CoreForm, StmtForm, goes_on, returns, either_flow, switch_flow, loop_flow, is_forever, is_true, is_true_literal}
use Rattle.swift_core.specs.declared.stmt.CoreStmt.{CoreStmt, out-CoreStmt}
use Rattle.swift_core.specs.declared.stmt.Over.{Over}
use Rattle.swift_core.specs.declared.term.Binary.TheVariants as two
use Rattle.swift_core.specs.declared.term.Change.{Change}
use Rattle.swift_core.specs.declared.term.ChangeCall.TheOpen.{Core-F}
use Rattle.swift_core.specs.declared.term.ChangeCall.TheViews.{sized-Promote}
use Rattle.swift_core.specs.declared.term.Core.{Core, out-Core, roll-Core, roll-out-Core, size-Core, size_is-Core}
use Rattle.swift_core.specs.declared.term.Core.TheVariants as core
use Rattle.swift_core.specs.declared.term.Invocation.{Invocation}
use Rattle.swift_core.specs.declared.term.Unary.TheVariants as one
use Rattle.swift_core.specs.declared.ty.Ty.{Ty, out-Ty}
use Rattle.swift_core.specs.declared.ty.Ty.TheVariants as ty
use Rattle.value_calls.specs.Calls as call
use Rattle.value_calls.specs.Made.{made}
use Rattle.value_calls.specs.declared.calls.Bounds.{Bounds}
use Rattle.value_calls.specs.declared.traps.TrapKind.TheVariants.{Weight, Calls as Nested}
use Rattle.core_means.specs.Asks.{World, Doing, ◌>>=◌, ◌>>◌, give, given, found, answered, spend, trap}
use Rattle.core_means.specs.Means.{Inside, inner, truth, truth_at, parts, places, below, up_to, invoked, invoked_value, changed, changed_value, two_operands, eval_at, eval_form, promoting, promoted_to, value_form, return_of, called, made_change, exec_at, exec_form, range_by, indices, span_form, means, does, spans, calls, changes}
use Rattle.core_means.specs.Places.{look_up}
use Rattle.core_means.specs.declared.parts.Flow.{Flow}
use Rattle.core_means.specs.declared.parts.Flow.TheVariants.{Next, Returned, Broke, Continued}
use Rattle.core_means.specs.declared.parts.Numbers.{Numbers}
use Rattle.value_fits.specs.Answers.{AnswersWith}
use Rattle.value_fits.specs.Changes.{HasResult}
use Rattle.value_fits.specs.Fields.{IsField}
use Rattle.world_fits.specs.Cells.{standing}
use Rattle.world_fits.specs.Laws.{Known}
use Rattle.world_fits.specs.Lists.{Each, each_front, each_back}
use Rattle.world_fits.specs.Places.{look_right}
use Rattle.world_fits.specs.Right.{Right, weaker, trap_right, GivesSome}
use Rattle.world_fits.specs.Sites.{Site, Scope, context, ValueHas, Fits, Allowed}
use Rattle.form_rights.specs.Calls.{invoked_good}
use Rattle.form_rights.specs.Changes.{changed_good}
use Rattle.form_rights.specs.Exprs as exprs
use Rattle.form_rights.specs.Exprs.{Term}
use Rattle.form_rights.specs.Good.{Good, good_then, good_give, good_answered, good_given, good_still}
use Rattle.form_rights.specs.Inside.{MayDo, FlowFits, After, Rights}
use Rattle.meaning_rights.specs.Loops as loops
use Rattle.form_rights.specs.Makes.{construction_good}
use Rattle.form_rights.specs.Mentions.{arm_mentions, case_mentions, core_layer, stmt_layer, core_is, stmt_is, invocation_is, change_is, written_is}
use Rattle.form_rights.specs.Stmts.{local_right, assignment_good, update_good, spent_right, after_none}

abbrev pub is_no_promotion : CoreForm → Type 0
is_no_promotion (Core-F.Promote e) = ⊥
is_no_promotion other = ⊤

true_is : (v : Value) → is_true (out-Value v) ≡ true → truth v ≡ Some true
unfolding truth
true_is v h = go (out-Value v) h
  where
    go : (l : Value-F Value) → is_true l ≡ true → truth_at l ≡ Some true
    go (Value-F.Bool b) h = ap Some h
    go (Value-F.Int n) h = cc
    go (Value-F.Str w) h = cc
    go (Value-F.List vs) h = cc
    go (Value-F.Opt o) h = cc
    go (Value-F.Struct k vs) h = cc
    go (Value-F.Case k n) h = cc

-- what is made is the value itself
made_same : (P : Value → Type 0) (v : Value) → P v → AnswersWith P (made v)
unfolding made
made_same P v h = elim (nat_le (weight v) 65536) as (λ b. AnswersWith P (if b then Some (Ok v) else Some (Err Weight))) [ true ↦ h | false ↦ tt ]

module _ (site : Site) (known : Known site) (i : Inside) (r : Rights site i) (sc : Scope) (locals : List Local) where
  -- ---- expressions

  some_value : (t : Ty) (o : Option Value) → HasResult site.program.table (Some t) o → GivesSome site (ValueHas site t) o
  some_value t None h = h
  some_value t (Some v) h = h

  invoked_form_good : (c : Invocation) (result : Option Ty) → Invokes (context site sc) locals c result → MayDo site sc (invocation_mentions c) → Good site sc locals (HasResult site.program.table result) (invoked i c)
  invoked_form_good c result h may = invoked_good site i r known sc locals c result h (subst (MayDo site sc) (invocation_is c) may)

  changed_form_good : (c : Change) (result : Option Ty) → Changes (context site sc) locals c result → MayDo site sc (change_mentions c) → Good site sc locals (HasResult site.program.table result) (changed i c)
  changed_form_good c result h may = changed_good site known i r sc locals c result h (subst (MayDo site sc) (change_is c) may)

  form_good : (l : CoreForm) (t : Ty) → is_no_promotion l → Has (context site sc) locals l t → MayDo site sc (core_layer l) → Good site sc locals (ValueHas site t) (eval_at i l)
  unfolding invoked_value changed_value two_operands
  form_good l t none (Has.literal {v = v} h) may = good_answered site sc locals _ (made v) (known.laws.made site.program.table t v h)
  form_good l t none (Has.name {l = look} h) may = good_still site sc locals _ (look_up look) (λ w fit. look_right site known sc locals w fit look t h may)
  form_good l t none (Has.text {ps = ps} h) may = exprs.text_good site known i r sc locals ps h may
  form_good l t none (Has.list {cs = cs} {t = u} h) may = exprs.list_good site known i r sc locals cs u h may
  form_good l t none (Has.promote e h) may = absurd none
  form_good l u none (Has.operate_one {op = op} {c = c} {t = t} h e) may = exprs.operand_good site known i r sc locals (one.Operate op) c t u (h, may) (λ v k. known.laws.unary site.program.table op t u v e k)
  form_good l t none (Has.force {c = c} {o = o} h e) may = exprs.operand_good site known i r sc locals one.Force c o t (h, may) (λ v k. known.laws.force site.program.table o t v e k)
  form_good l u none (Has.field {c = c} {t = t} {n = n} h named stands form) may =
      exprs.operand_good site known i r sc locals (one.Field n) c t u (h, may) (λ v k. known.laws.field site.program.table (standing site known) t u n v (IsField.is_field named stands form) k)
  form_good l u none (Has.property {p = p} {c = c} {t = t} h e) may = exprs.operand_good site known i r sc locals (one.Look p) c t u (h, may) (λ v k. known.laws.property site.program.table p t u v e k)
  form_good l u none (Has.operate {op = op} {a = a} {b = b} {t = t} h k e) may =
      exprs.operands_good site known i r sc locals (two.Operate op) a b t t u (h, each_front (Allowed site sc) (core_mentions a) (core_mentions b) may) (k, each_back (Allowed site sc) (core_mentions a) (core_mentions b) may)
      (λ x y p q. known.laws.binary site.program.table op t u x y e p q)
  form_good l t none (Has.both {a = a} {b = b} h k) may = exprs.both_good site known i r sc locals a b (h, each_front (Allowed site sc) (core_mentions a) (core_mentions b) may) (k, each_back (Allowed site sc) (core_mentions a) (core_mentions b) may)
  form_good l t none (Has.either {a = a} {b = b} h k) may = exprs.either_good site known i r sc locals a b (h, each_front (Allowed site sc) (core_mentions a) (core_mentions b) may) (k, each_back (Allowed site sc) (core_mentions a) (core_mentions b) may)
  form_good l t none (Has.coalesce {a = a} {b = b} {o = o} h e k) may =
      exprs.coalesced_good site known i r sc locals a b o t e (h, each_front (Allowed site sc) (core_mentions a) (core_mentions b) may) (k, each_back (Allowed site sc) (core_mentions a) (core_mentions b) may)
  form_good l o none (Has.coalesce_optional {a = a} {b = b} {t = t} h e k) may =
      exprs.coalesced_optional_good site known i r sc locals a b o t e (h, each_front (Allowed site sc) (core_mentions a) (core_mentions b) may) (k, each_back (Allowed site sc) (core_mentions a) (core_mentions b) may)
  form_good l t none (Has.element {a = a} {b = b} {l = list} h e k) may =
      exprs.operands_good site known i r sc locals two.Element a b list ty.Int t (h, each_front (Allowed site sc) (core_mentions a) (core_mentions b) may) (k, each_back (Allowed site sc) (core_mentions a) (core_mentions b) may)
      (λ x y p q. known.laws.element site.program.table list t x y e p q)
  form_good l u none (Has.contains {a = a} {b = b} {l = list} {t = t} h e k) may =
      exprs.operands_good site known i r sc locals two.Contains a b list t ty.Bool (h, each_front (Allowed site sc) (core_mentions a) (core_mentions b) may) (k, each_back (Allowed site sc) (core_mentions a) (core_mentions b) may)
      (λ x y p q. known.laws.contains site.program.table list t x y e p q)
  form_good l u none (Has.first_index {a = a} {b = b} {l = list} {t = t} h e k) may =
      exprs.operands_good site known i r sc locals two.FirstIndex a b list t (ty.Optional ty.Int) (h, each_front (Allowed site sc) (core_mentions a) (core_mentions b) may) (k, each_back (Allowed site sc) (core_mentions a) (core_mentions b) may)
      (λ x y p q. known.laws.first_index site.program.table list t x y e p q)
  form_good l t none (Has.repeated {a = a} {b = b} h k) may =
      exprs.operands_good site known i r sc locals two.Repeat a b ty.Text ty.Int ty.Text (h, each_front (Allowed site sc) (core_mentions a) (core_mentions b) may) (k, each_back (Allowed site sc) (core_mentions a) (core_mentions b) may)
      (λ x y p q. known.laws.repeated site.program.table x y p q)
  form_good l t none (Has.choose {c = c} {a = a} {b = b} h k m) may =
      let rest = each_back (Allowed site sc) (core_mentions c) (core_mentions a ++ core_mentions b) may in
      exprs.choice_good site known i r sc locals c a b t (h, each_front (Allowed site sc) (core_mentions c) (core_mentions a ++ core_mentions b) may) (k, each_front (Allowed site sc) (core_mentions a) (core_mentions b) rest) (m, each_back (Allowed site sc) (core_mentions a) (core_mentions b) rest)
  form_good l t none (Has.make {d = d} {fs = fs} {names_identifiable = b} {declaration = declaration} declared is fills) may = construction_good site known i r sc locals d fs b declaration declared is fills may
  form_good l t none (Has.static {id = id} {d = d} {s = s} has code is) may = exprs.static_good site known i r sc locals id d s t has code is
  form_good l t none (Has.invoke {i = c} h) may =
      good_then site sc locals _ (invoked i c) (λ o. given o) (invoked_form_good c (Some t) h may) (λ o k. good_given site sc locals _ o (some_value t o k))
  form_good l t none (Has.change {c = c} h) may =
      good_then site sc locals _ (changed i c) (λ o. given o) (changed_form_good c (Some t) h may) (λ o k. good_given site sc locals _ o (some_value t o k))

  -- ---- promotions

  promote_size : (e x : Core) → out-Core e ≡ Core-F.Promote x → size-Core e ≡ suc (size-Core x)
  promote_size e x h =
      let same : e ≡ core.Promote x = sym (roll-out-Core e) ∙ ap roll-Core h ∙ core.rolls-Promote x in
      let s = sized-Promote x in
      omega (arith, ap size-Core same)

  plain_value : (e : Core) (t : Ty) (l : CoreForm) → out-Core e ≡ l → is_no_promotion l → Has (context site sc) locals (out-Core e) t → MayDo site sc (core_mentions e) → Good site sc locals (ValueHas site t) (eval_form i e)
  unfolding eval_form
  plain_value e t l is none h may = form_good (out-Core e) t (subst is_no_promotion (sym is) none) h (subst (MayDo site sc) (core_is e) may)

  promote_good : (inside : Core → Doing Value) (e : Core) (t : Ty) (l : CoreForm) → out-Core e ≡ l → Has (context site sc) locals (out-Core e) t → MayDo site sc (core_mentions e)
      → ((x : Core) (u : Ty) → out-Core e ≡ Core-F.Promote x → Has (context site sc) locals (out-Core x) u → MayDo site sc (core_mentions x) → Good site sc locals (ValueHas site u) (inside x))
      → Good site sc locals (ValueHas site t) (promoting i inside e l)
  promote_good inside e t (Core-F.Promote x) is h may below = go (subst (λ (m : CoreForm). Has (context site sc) locals m t) is h)
    where
      go : Has (context site sc) locals (Core-F.Promote x) t → Good site sc locals (ValueHas site t) (inside x >>= λ v. answered (call.promoted v))
      go (Has.promote {t = u} e' k) =
          good_then site sc locals _ (inside x) (λ v. answered (call.promoted v)) (below x u is k (subst (MayDo site sc) (core_is e ∙ ap core_layer is) may))
          (λ v p. good_answered site sc locals _ (call.promoted v) (known.laws.promoted site.program.table t u v e' p))
  promote_good inside e t (Core-F.Literal v) is h may below = plain_value e t (Core-F.Literal v) is tt h may
  promote_good inside e t (Core-F.Look l) is h may below = plain_value e t (Core-F.Look l) is tt h may
  promote_good inside e t (Core-F.«Core::Text» ps) is h may below = plain_value e t (Core-F.«Core::Text» ps) is tt h may
  promote_good inside e t (Core-F.List es) is h may below = plain_value e t (Core-F.List es) is tt h may
  promote_good inside e t (Core-F.Unary o a) is h may below = plain_value e t (Core-F.Unary o a) is tt h may
  promote_good inside e t (Core-F.Binary o a b) is h may below = plain_value e t (Core-F.Binary o a b) is tt h may
  promote_good inside e t (Core-F.Choose c a b) is h may below = plain_value e t (Core-F.Choose c a b) is tt h may
  promote_good inside e t (Core-F.Make d fs) is h may below = plain_value e t (Core-F.Make d fs) is tt h may
  promote_good inside e t (Core-F.Static c) is h may below = plain_value e t (Core-F.Static c) is tt h may
  promote_good inside e t (Core-F.Invoke c) is h may below = plain_value e t (Core-F.Invoke c) is tt h may
  promote_good inside e t (Core-F.Change c) is h may below = plain_value e t (Core-F.Change c) is tt h may

  promoted_good : (n : ℕ) (e : Core) (t : Ty) → size-Core e ≤ n → Has (context site sc) locals (out-Core e) t → MayDo site sc (core_mentions e) → Good site sc locals (ValueHas site t) (promoted_to i n e)
  unfolding promoted_to
  promoted_good zero e t small h may = let k = size_is-Core e in absurd (omega (arith, small))
  promoted_good (suc n) e t small h may = promote_good (promoted_to i n) e t (out-Core e) refl h may (λ x u is k m. promoted_good n x u (let s = promote_size e x is in omega (arith, small)) k m)

  pub value_good : (e : Core) (t : Ty) → Has (context site sc) locals (out-Core e) t → MayDo site sc (core_mentions e) → Good site sc locals (ValueHas site t) (value_form i e)
  unfolding value_form
  value_good e t h may = promoted_good (size-Core e) e t (omega arith) h may

  -- the word `true` is a value that is true
  pub forever_good : (e : Core) → is_true_literal (out-Core e) ≡ true → Good site sc locals (λ v. truth v ≡ Some true) (value_form i e)
  unfolding value_form eval_form promoted_to
  forever_good e is = go (size-Core e) refl
    where
      literal : (l : CoreForm) → is_true_literal l ≡ true → Good site sc locals (λ v. truth v ≡ Some true) (eval_at i l)
      literal (Core-F.Literal v) h = good_answered site sc locals _ (made v) (made_same _ v (true_is v h))
      literal (Core-F.Look l) h = cc
      literal (Core-F.«Core::Text» ps) h = cc
      literal (Core-F.List es) h = cc
      literal (Core-F.Promote a) h = cc
      literal (Core-F.Unary o a) h = cc
      literal (Core-F.Binary o a b) h = cc
      literal (Core-F.Choose c a b) h = cc
      literal (Core-F.Make d fs) h = cc
      literal (Core-F.Static c) h = cc
      literal (Core-F.Invoke c) h = cc
      literal (Core-F.Change c) h = cc

      plain : Good site sc locals (λ v. truth v ≡ Some true) (eval_form i e)
      plain = literal (out-Core e) is

      layer : (inside : Core → Doing Value) (l : CoreForm) → is_true_literal l ≡ true → Good site sc locals (λ v. truth v ≡ Some true) (promoting i inside e l)
      layer inside (Core-F.Literal v) h = plain
      layer inside (Core-F.Look l) h = cc
      layer inside (Core-F.«Core::Text» ps) h = cc
      layer inside (Core-F.List es) h = cc
      layer inside (Core-F.Promote a) h = cc
      layer inside (Core-F.Unary o a) h = cc
      layer inside (Core-F.Binary o a b) h = cc
      layer inside (Core-F.Choose c a b) h = cc
      layer inside (Core-F.Make d fs) h = cc
      layer inside (Core-F.Static c) h = cc
      layer inside (Core-F.Invoke c) h = cc
      layer inside (Core-F.Change c) h = cc

      go : (n : ℕ) → size-Core e ≡ n → Good site sc locals (λ v. truth v ≡ Some true) (promoted_to i n e)
      go zero small = plain
      go (suc n) small = layer (promoted_to i n) (out-Core e) is

  -- ---- ranges

  range_good : (numbers : Bounds → Numbers) (a b : Core) → Term site known i r sc locals a ty.Int → Term site known i r sc locals b ty.Int → Good site sc locals (λ (n : Numbers). ⊤) (range_by i numbers a b)
  unfolding range_by
  range_good numbers a b h k =
      good_then site sc locals _ (i.eval a) (λ x. i.eval b >>= λ y. answered (call.bounds_of x y) >>= λ bounds. give (numbers bounds)) (r.eval sc locals a ty.Int h.0 h.1)
      (λ x p. good_then site sc locals _ (i.eval b) (λ y. answered (call.bounds_of x y) >>= λ bounds. give (numbers bounds)) (r.eval sc locals b ty.Int k.0 k.1)
      (λ y q. good_then site sc locals _ (answered (call.bounds_of x y)) (λ bounds. give (numbers bounds)) (good_answered site sc locals _ (call.bounds_of x y) (known.laws.bounds site.program.table x y p q))
      (λ bounds m. good_give site sc locals _ (numbers bounds) tt)))

  indices_good : (c : Core) (l t : Ty) → element_at (out-Ty l) ≡ Some t → Term site known i r sc locals c l → Good site sc locals (λ (n : Numbers). ⊤) (indices i c)
  unfolding indices
  indices_good c l t is h =
      good_then site sc locals _ (i.eval c) (λ v. found (parts v) (λ vs. give (places vs))) (r.eval sc locals c l h.0 h.1)
      (λ v k. let y = known.laws.lists site.program.table l t v is k in
      subst (λ (o : Option (List Value)). Good site sc locals (λ (n : Numbers). ⊤) (found o (λ vs. give (places vs)))) (sym y.1) (good_give site sc locals _ (places y.0) tt))

  pub span_good : (o : Over) → IsRange (context site sc) locals o → MayDo site sc (over_mentions o) → Good site sc locals (λ (n : Numbers). ⊤) (span_form i o)
  unfolding span_form
  span_good o (IsRange.up_to {a = a} {b = b} h k) may = range_good below a b (h, each_front (Allowed site sc) (core_mentions a) (core_mentions b) may) (k, each_back (Allowed site sc) (core_mentions a) (core_mentions b) may)
  span_good o (IsRange.through {a = a} {b = b} h k) may = range_good up_to a b (h, each_front (Allowed site sc) (core_mentions a) (core_mentions b) may) (k, each_back (Allowed site sc) (core_mentions a) (core_mentions b) may)
  span_good o (IsRange.indices {c = c} {l = l} {t = t} h is) may = indices_good c l t is (h, may)

  -- ---- statements

  module _ (result : Option Ty) (within : Within) where
    settled : (f : HowItEnds) (m : Doing Flow) → Good site sc locals (FlowFits site result within f) m → (w : World) → Fits site sc locals w → Right site (λ flow u. FlowFits site result within f flow × After site sc locals None flow u) (m w)
    settled f m h w fit = weaker site (m w) (h w fit) (λ flow u e. (e.0, after_none site sc locals flow u e.1))

    statement_right : (s : StmtForm) (l : Option Local) (f : HowItEnds) → Statement (context site sc) result within locals s l f → MayDo site sc (stmt_layer s)
        → (w : World) → Fits site sc locals w → Right site (λ flow u. FlowFits site result within f flow × After site sc locals l flow u) (exec_at i s w)
    unfolding return_of called made_change
    statement_right s l f (Statement.declare {c = c} {t = t} h) may = local_right site known i r sc locals c t result within goes_on h refl may
    statement_right s l f (Statement.assign {target = target} {c = c} {t = t} places h) may =
        settled goes_on _ (assignment_good site known i r sc locals _ target c t refl places h (subst (MayDo site sc) (written_is target (core_mentions c)) may))
    statement_right s l f (Statement.update {op = op} {target = target} {c = c} {t = t} places h typed) may =
        settled goes_on _ (update_good site known i r sc locals _ op target c t refl places h typed (subst (MayDo site sc) (written_is target (core_mentions c)) may))
    statement_right s l f' (Statement.decide {arms = as'} {f = f} h) may =
        settled (either_flow f goes_on) _ (loops.arms_good site known i r sc locals result within as' None f goes_on h (good_give site sc locals _ Next refl) (each_front (Allowed site sc) (joined (map arm_mentions as')) [] may))
    statement_right s l f' (Statement.decide_else {arms = as'} {ss = ss} {f = f} {g = g} h k) may =
        settled (either_flow f g) _ (loops.arms_good site known i r sc locals result within as' (Some ss) f g h
        (loops.scoped_good site known i r sc locals result within ss g k (each_back (Allowed site sc) (joined (map arm_mentions as')) (joined (map stmt_mentions ss)) may))
        (each_front (Allowed site sc) (joined (map arm_mentions as')) (joined (map stmt_mentions ss)) may))
    statement_right s l f' (Statement.switch {c = c} {t = t} {cases = cs} {f = f} h covers cases) may =
        settled (switch_flow f) _ (loops.selection_good site known i r sc locals result within c t cs f h covers cases (each_front (Allowed site sc) (core_mentions c) (joined (map case_mentions cs)) may) (each_back (Allowed site sc) (core_mentions c) (joined (map case_mentions cs)) may))
    statement_right s l f' (Statement.for_each {o = o} {t = t} {ss = ss} {f = f} is h) may =
        settled goes_on _ (loops.loop_good site known i r sc locals result within ss t f o is h (each_back (Allowed site sc) (over_mentions o) (joined (map stmt_mentions ss)) may) (each_front (Allowed site sc) (over_mentions o) (joined (map stmt_mentions ss)) may))
    statement_right s l f' (Statement.while {inner = inner} {cs = cs} {ss = ss} {f = f} conds h) may =
        settled (loop_flow (is_forever cs) f) _ (loops.repetition_good site known i r sc locals result within cs inner ss f conds h
        (each_front (Allowed site sc) (flat_map condition_mentions cs) (joined (map stmt_mentions ss)) may) (each_back (Allowed site sc) (flat_map condition_mentions cs) (joined (map stmt_mentions ss)) may))
    statement_right s l f (Statement.leave e) may = settled returns _ (good_give site sc locals _ (Returned None) e)
    statement_right s l f (Statement.give {c = c} {t = t} e h) may =
        settled returns _ (good_then site sc locals _ (i.eval c) (λ v. give (Returned (Some v))) (r.eval sc locals c t h may) (λ v k. good_give site sc locals _ (Returned (Some v)) (t, e, k)))
    statement_right s l f (Statement.break e) may = settled (record { ends = false; breaks = true }) _ (good_give site sc locals _ Broke (refl, e))
    statement_right s l f (Statement.continue e) may = settled goes_on _ (good_give site sc locals _ Continued e)
    statement_right s l f (Statement.call {i = c} h) may =
        settled goes_on _ (good_then site sc locals _ (i.call c) (λ o. give Next) (r.call sc locals c None h may) (λ o k. good_give site sc locals _ Next refl))
    statement_right s l f (Statement.alter {c = c} {value = value} h) may =
        settled goes_on _ (good_then site sc locals _ (i.change c) (λ o. give Next) (r.change sc locals c value h may) (λ o k. good_give site sc locals _ Next refl))

    pub exec_right : (s : CoreStmt) (l : Option Local) (f : HowItEnds) → Statement (context site sc) result within locals (out-CoreStmt s) l f → MayDo site sc (stmt_mentions s)
        → (w : World) → Fits site sc locals w → Right site (λ flow u. FlowFits site result within f flow × After site sc locals l flow u) (exec_form i s w)
    unfolding exec_form
    exec_right s l f h may w fit = statement_right (out-CoreStmt s) l f h (subst (MayDo site sc) (stmt_is s) may) w fit

-- ---- where this many forms may still be entered

module _ (site : Site) (known : Known site) where
  spent_trap : (sc : Scope) (locals : List Local) {A : Type 0} (P : A → World → Type 0) (w : World) → Fits site sc locals w → Right site P ((spend >> trap Nested) w)
  spent_trap sc locals P w fit = spent_right site sc locals _ (trap Nested) w fit (λ u g. trap_right site _ Nested u g.live)

  pub all_right : (room : ℕ) → Rights site (inner site.program room)
  unfolding means does spans calls changes
  all_right zero = record {
    same = refl;
    eval = λ sc locals e t h may w fit. spent_trap sc locals _ w fit;
    forever = λ sc locals e is w fit. spent_trap sc locals _ w fit;
    exec = λ sc locals s result within l f h may w fit. spent_trap sc locals _ w fit;
    span = λ sc locals o h may w fit. spent_trap sc locals _ w fit;
    call = λ sc locals c result h may w fit. spent_trap sc locals _ w fit;
    change = λ sc locals c result h may w fit. spent_trap sc locals _ w fit;
  }
  all_right (suc room) =
      let i = inner site.program room in
      let r = all_right room in
      record {
        same = refl;
        eval = λ sc locals e t h may w fit. spent_right site sc locals _ (value_form i e) w fit (value_good site known i r sc locals e t h may);
        forever = λ sc locals e is w fit. spent_right site sc locals _ (value_form i e) w fit (forever_good site known i r sc locals e is);
        exec = λ sc locals s result within l f h may w fit. spent_right site sc locals _ (exec_form i s) w fit (exec_right site known i r sc locals result within s l f h may);
        span = λ sc locals o h may w fit. spent_right site sc locals _ (span_form i o) w fit (span_good site known i r sc locals o h may);
        call = λ sc locals c result h may w fit. spent_right site sc locals _ (invoked i c) w fit (invoked_form_good site known i r sc locals c result h may);
        change = λ sc locals c result h may w fit. spent_right site sc locals _ (changed i c) w fit (changed_form_good site known i r sc locals c result h may);
      }
