-- What names, members of `self` and members of a declaration are in a chain is well typed.
use Rattle.std.specs.Prelude.{◌≡◌, ℕ, zero, suc, ◌≤◌, ℤ, pos, negsuc, Bool, true, false, List, [], ◌∷◌, ◌++◌, Option, Some, None, option_map, slice_get, codes, if◌then◌else◌}
use Rattle.std.specs.Str.{bytes_eq}
use Rattle.std.proofs.Common.{refl, sym, ap, subst, ◌∙◌, arith, inl, inr}
use Rattle.std.proofs.lemmas.Option.{slice_get-map}
use Rattle.sv_value.specs.declared.value.Value.{Value, out-Value}
use Rattle.sv_value.specs.declared.value.Value.TheVariants as value
use Rattle.sv_value.specs.declared.value.Value.TheViews as value_view
use Rattle.swift_ast.specs.declared.tree.Binder.TheVariants.{Var}
use Rattle.swift_core.specs.Context as cores
use Rattle.swift_core.specs.Context.{Itself, HasMember, OwnMember}
use Rattle.swift_core.specs.Types.{named_at}
use Rattle.swift_core.specs.Typing.{Has, Looks, Places, Begins, Leads, Steps, Uses, Invokes, Receives, Arguments, is_value, is_there}
use Rattle.swift_core.specs.Values.{HasValueAt, AllHaveValue}
use Rattle.swift_core.specs.declared.code.Code.{Code}
use Rattle.swift_core.specs.declared.table.Declaration.{Declaration}
use Rattle.swift_core.specs.declared.table.EnvironmentKey.{EnvironmentKey}
use Rattle.swift_core.specs.declared.table.Kind.{Kind}
use Rattle.swift_core.specs.declared.table.Kind.TheVariants as kind
use Rattle.swift_core.specs.declared.table.ParamSignature.{ParamSignature}
use Rattle.swift_core.specs.declared.table.Signature.{Signature}
use Rattle.swift_core.specs.declared.table.SignatureForm.{SignatureForm}
use Rattle.swift_core.specs.declared.table.SignatureForm.TheVariants as form
use Rattle.swift_core.specs.declared.term.Core.{out-Core}
use Rattle.swift_core.specs.declared.term.Core.TheVariants as core
use Rattle.swift_core.specs.declared.term.ChangeCall.TheViews.{outs-Literal, outs-Look, outs-Static, outs-Invoke}
use Rattle.swift_core.specs.declared.term.CoreHop.TheVariants as hop
use Rattle.swift_core.specs.declared.term.ChangeCall.TheViews.{outs-Field}
use Rattle.swift_core.specs.declared.term.Invocation.{roll-Invocation}
use Rattle.swift_core.specs.declared.term.Receiver.TheVariants as receiver
use Rattle.swift_core.specs.declared.term.ChangeCall.TheViews.{outs-Same}
use Rattle.swift_core.specs.declared.term.Root.{Root}
use Rattle.swift_core.specs.declared.term.Root.TheVariants as root
use Rattle.swift_core.specs.declared.ty.Ty.{Ty, out-Ty}
use Rattle.swift_core.specs.declared.ty.Ty.TheVariants as ty
use Rattle.swift_core.specs.declared.ty.Ty.TheViews as ty_view
use Rattle.type_base.specs.declared.scope.Local.{Local}
use Rattle.type_base.specs.declared.scope.LocalKind.{LocalKind}
use Rattle.type_base.specs.declared.scope.LocalKind.TheVariants as kept
use Rattle.type_base.specs.declared.scope.Stance.{Stance}
use Rattle.type_base.specs.declared.scope.Stance.TheVariants as stance
use Rattle.type_base.specs.Claims.{Then, some_is}
use Rattle.type_base.specs.Context.{Context}
use Rattle.type_base.specs.Names.{IsLocal, IsOwn, IsOwner, IsMember, IsDeclaration, member_of, member_exact}
use Rattle.post_rules.specs.declared.chained.BuiltIn.{BuiltIn}
use Rattle.post_rules.specs.declared.chained.BuiltIn.TheVariants as built_in
use Rattle.post_rules.specs.declared.chained.Chained.{Chained}
use Rattle.post_rules.specs.declared.chained.Chained.TheVariants as chained
use Rattle.post_rules.specs.Chains.{First, IsOwnName, AnyName, NameRule}
use Rattle.post_rules.specs.Members.{own_of_view, own_of_data, own_of_mutating, own_of_key, own_at, local_at, cases, type_member_at, all_cases, type_member_in, type_member, built_in_member}
use Rattle.post_rules.specs.Places.{whole}
use Rattle.expr_cores.specs.Contexts.{core_context, core_locals, core_local, itself_of, Fits}
use Rattle.expr_cores.specs.Ops.{has_value, int_value}
use Rattle.post_cores.specs.Members.{found_so, when_so}
use Rattle.post_cores.specs.Reading.{reached_by, hop_good}
use Rattle.post_cores.specs.States.{IsGood, good_is, has_by}

module _ (cx : cores.Context) (ls : List cores.Local) where
  pub begins_good : (r : Root) (t : Ty) → Begins cx ls r t → Places cx ls (whole r) t
  begins_good r t b = reached_by cx ls r [] t t b Leads.there

  -- ---- members of `self`

  module _ (d m : ℕ) (declaration : Declaration) (s : Signature) (o : cx.owner ≡ Some d) (sd : slice_get cx.table.declarations d ≡ Some declaration) (sm : slice_get declaration.members m ≡ Some s) where
    owned : OwnMember cx s
    owned = (d, o, HasMember.member m sd sm)

    computed_good : (t : Ty) → is_there cx.itself ≡ true → s.form ≡ form.Computed (Some t) → Has cx ls (out-Core (core.Invoke (roll-Invocation (record { code = s.code; receiver = receiver.Same; arguments = [] })))) t
    computed_good t th e = has_by cx ls _ (outs-Invoke _) (Has.invoke (Invokes.uses (HasMember.member m sd sm) refl (Uses.computed e) (subst (λ x. Receives cx ls x d) (sym outs-Same) (Receives.same th o)) Arguments.no_arguments))

    function_good : (ps : List ParamSignature) (result : Option Ty) → is_there cx.itself ≡ true → s.form ≡ form.Function ps result false → IsGood cx ls (chained.Function receiver.Same d m)
    function_good ps result th e = (subst (λ x. Receives cx ls x d) (sym outs-Same) (Receives.same th o), record { signature = s; declaration = declaration; declared = sd; stands = sm; parameters = ps; result = result; is_so = e })

    view_good : cx.itself ≡ Itself.a_view → (f : SignatureForm) (r : Chained) → s.form ≡ f → own_of_view cx.table d m s.code f ≡ Some r → IsGood cx ls r
    view_good v (form.Stored at b (Some t) a) r e h = good_is cx ls h (has_by cx ls _ (outs-Look _) (Has.name (Looks.input v owned e)))
    view_good v (form.State at (Some t) a) r e h = good_is cx ls h (begins_good _ t (Begins.at_slot v owned e))
    view_good v (form.Binding at (Some t)) r e h = good_is cx ls h (begins_good _ t (Begins.at_bound_input v owned e))
    view_good v (form.Environment key) r e h = found_so (IsGood cx ls r) h (λ (k : EnvironmentKey) sk g. found_so (IsGood cx ls r) g (λ t st q. good_is cx ls q (has_by cx ls _ (outs-Look _) (Has.name (Looks.environment v sk st)))))
    view_good v (form.Computed (Some t)) r e h = good_is cx ls h (computed_good t (ap is_there v) e)
    view_good v (form.Function ps result false) r e h = good_is cx ls h (function_good ps result (ap is_there v) e)
    view_good v _ r e h = cc

    data_good : is_value cx.itself ≡ true → is_there cx.itself ≡ true → (f : SignatureForm) (r : Chained) → s.form ≡ f → own_of_data d m s.code f ≡ Some r → IsGood cx ls r
    data_good v th (form.Stored at b (Some t) a) r e h = good_is cx ls h (has_by cx ls _ (outs-Look _) (Has.name (Looks.own_field v owned e)))
    data_good v th (form.Computed (Some t)) r e h = good_is cx ls h (computed_good t th e)
    data_good v th (form.Function ps result false) r e h = good_is cx ls h (function_good ps result th e)
    data_good v th _ r e h = cc

    mutating_good : cx.itself ≡ Itself.a_changed_value → (f : SignatureForm) (r : Chained) → s.form ≡ f → own_of_mutating d m s.code f ≡ Some r → IsGood cx ls r
    mutating_good v (form.Stored at Var (Some t) a) r e h =
        good_is cx ls h (hop_good cx ls (whole root.Itself) (hop.Field at) (ty.Named d) t (begins_good root.Itself (ty.Named d) (Begins.at_itself v o))
        (subst (λ x. Steps cx ls (ty.Named d) x t) (sym (outs-Field at)) (Steps.to_field (ap named_at (ty_view.outs-Named d)) (HasMember.member m sd sm) e)))
    mutating_good v (form.Function ps result true) r e h =
        good_is cx ls h (ty.Named d, begins_good root.Itself (ty.Named d) (Begins.at_itself v o), (ap named_at (ty_view.outs-Named d), record { signature = s; declaration = declaration; declared = sd; stands = sm; parameters = ps; result = result; is_so = e }))
    mutating_good v f r e h = data_good (ap is_value v) (ap is_there v) f r e h

    key_good : (f : SignatureForm) (r : Chained) → s.form ≡ f → own_of_key s.code f ≡ Some r → IsGood cx ls r
    key_good (form.Static (Some t)) r e h = good_is cx ls h (has_by cx ls _ (outs-Static _) (Has.static (HasMember.member m sd sm) refl e))
    key_good _ r e h = cc

  -- ---- members of a declaration

  some_more : {t : Ty} (vs : List Value) (v : Value) → AllHaveValue cx.table t vs → HasValueAt cx.table (out-Ty t) (out-Value v) → AllHaveValue cx.table t (vs ++ v ∷ [])
  some_more [] v (AllHaveValue.no_values t) h = AllHaveValue.more_values h (AllHaveValue.no_values _)
  some_more (w ∷ vs) v (AllHaveValue.more_values g gs) h = AllHaveValue.more_values g (some_more vs v gs h)

  cases_good : (d k : ℕ) (b : Bool) (declaration : Declaration) → slice_get cx.table.declarations d ≡ Some declaration → declaration.kind ≡ kind.Enum b k → (n : ℕ) → n ≤ k → AllHaveValue cx.table (ty.Named d) (cases d n)
  cases_good d k b declaration sd e zero le = AllHaveValue.no_values _
  cases_good d k b declaration sd e (suc n) le =
      some_more (cases d n) (value.Case d n) (cases_good d k b declaration sd e n (omega arith)) (has_value _ _ cx.table (ty_view.outs-Named d) (value_view.outs-Case d n) (HasValueAt.case sd e (omega arith)))

  module _ (fit : Fits cx.table) (d : ℕ) (declaration : Declaration) (sd : slice_get cx.table.declarations d ≡ Some declaration) where
    member_good : (m : ℕ) (s : Signature) → slice_get declaration.members m ≡ Some s → (f : SignatureForm) (r : Chained) → s.form ≡ f → type_member_at d s.code f ≡ Some r → IsGood cx ls r
    member_good m s sm (form.Static (Some t)) r e h = good_is cx ls h (has_by cx ls _ (outs-Static _) (Has.static (HasMember.member m sd sm) refl e))
    member_good m s sm (form.Case at) r e h =
        let c = fit.cases d m at declaration s sd sm e in
        good_is cx ls h (has_by cx ls _ (outs-Literal _) (Has.literal (has_value _ _ cx.table (ty_view.outs-Named d) (value_view.outs-Case d at) (HasValueAt.case sd c.1.1 c.1.2))))
    member_good m s sm _ r e h = cc

    all_good : (f : Kind) (r : Chained) → declaration.kind ≡ f → all_cases d f ≡ Some r → IsGood cx ls r
    all_good (kind.Enum true n) r e h =
        good_is cx ls h (has_by cx ls _ (outs-Literal _) (Has.literal (has_value _ _ cx.table (ty_view.outs-List (ty.Named d)) (value_view.outs-List (cases d n)) (HasValueAt.list (cases_good d n true declaration sd e n (omega arith))))))
    all_good _ r e h = cc

    in_good : (w : List ℕ) (o : Option (ℕ × Signature)) (r : Chained) → member_of w declaration ≡ o → type_member_in d declaration.kind w o ≡ Some r → IsGood cx ls r
    unfolding IsMember
    in_good w (Some m) r e h = member_good m.0 m.1 ((member_exact w declaration m).0 e).1 m.1.form r refl h
    in_good w None r e h = all_good declaration.kind r refl (when_so _ _ h)

  pub type_good : Fits cx.table → (d : ℕ) (w : List ℕ) (r : Chained) → type_member cx.table d w ≡ Some r → IsGood cx ls r
  unfolding type_member
  type_good fit d w r h = found_so (IsGood cx ls r) h (λ declaration sd k. in_good fit d declaration sd w (member_of w declaration) r refl k)

  -- `Int.max` and `Int.min`
  number_good : (a b : Bool) (m n : ℤ) (r : Chained) → (if a then Some (chained.Value (core.Literal (value.Int m)) ty.Int) else if b then Some (chained.Value (core.Literal (value.Int n)) ty.Int) else None) ≡ Some r → IsGood cx ls r
  number_good true b m n r h = good_is cx ls h (has_by cx ls _ (outs-Literal _) (Has.literal (int_value m cx.table)))
  number_good false true m n r h = good_is cx ls h (has_by cx ls _ (outs-Literal _) (Has.literal (int_value n cx.table)))
  number_good false false m n r h = cc

  pub built_in_good : (b : BuiltIn) (w : List ℕ) (r : Chained) → built_in_member b w ≡ Some r → IsGood cx ls r
  built_in_good built_in.Int w r h = number_good (bytes_eq w (codes "max")) (bytes_eq w (codes "min")) (pos 9223372036854775807) (negsuc 9223372036854775807) r h
  built_in_good built_in.Text w r h = cc
  built_in_good built_in.Absolute w r h = cc
  built_in_good built_in.Min w r h = cc
  built_in_good built_in.Max w r h = cc

module _ (blocks : List Code) (cx : Context) where
  own_by : (st : Stance) (d m : ℕ) (declaration : Declaration) (s : Signature) (r : Chained) → cx.stance ≡ st → cx.owner ≡ Some d → slice_get cx.table.declarations d ≡ Some declaration
      → slice_get declaration.members m ≡ Some s → own_at cx.table d st (m, s) ≡ Some r → IsGood (core_context cx blocks) (core_locals cx.locals) r
  own_by stance.View d m declaration s r e o sd sm h = view_good (core_context cx blocks) (core_locals cx.locals) d m declaration s o sd sm (ap itself_of e) s.form r refl h
  own_by stance.Data d m declaration s r e o sd sm h = data_good (core_context cx blocks) (core_locals cx.locals) d m declaration s o sd sm (ap (λ x. is_value (itself_of x)) e) (ap (λ x. is_there (itself_of x)) e) s.form r refl h
  own_by stance.Mutating d m declaration s r e o sd sm h = mutating_good (core_context cx blocks) (core_locals cx.locals) d m declaration s o sd sm (ap itself_of e) s.form r refl h
  own_by stance.Key d m declaration s r e o sd sm h = key_good (core_context cx blocks) (core_locals cx.locals) d m declaration s o sd sm s.form r refl h
  own_by stance.Outside d m declaration s r e o sd sm h = cc
  own_by stance.Initial d m declaration s r e o sd sm h = cc

  -- a member of `self`
  pub own_good : (w : List ℕ) (m : ℕ × Signature) (d : ℕ) (r : Chained) → IsOwn w cx m → cx.owner ≡ Some d → own_at cx.table d cx.stance m ≡ Some r → IsGood (core_context cx blocks) (core_locals cx.locals) r
  unfolding IsOwn IsOwner IsMember Then
  own_good w m d r (owner, (o, sd), (g, sm)) e h =
      let same : owner.0 ≡ d = some_is owner.0 d (sym o ∙ e) in
      own_by cx.stance d m.0 owner.1 m.1 r refl e (subst (λ (n : ℕ). slice_get cx.table.declarations n ≡ Some owner.1) same sd) sm h

  there : (i : ℕ) (l : Local) (k : LocalKind) → slice_get cx.locals i ≡ Some l → l.kind ≡ k → slice_get (core_locals cx.locals) i ≡ Some (core_local l.ty k)
  there i l k s e = slice_get-map (λ (l : Local). core_local l.ty l.kind) cx.locals i ∙ ap (option_map (λ (l : Local). core_local l.ty l.kind)) s ∙ ap (λ j. Some (core_local l.ty j)) e

  local_good : (i : ℕ) (l : Local) (k : LocalKind) → slice_get cx.locals i ≡ Some l → l.kind ≡ k → IsGood (core_context cx blocks) (core_locals cx.locals) (local_at i l k)
  local_good i l kept.Let s e = has_by (core_context cx blocks) (core_locals cx.locals) _ (outs-Look _) (Has.name (Looks.local (there i l kept.Let s e)))
  local_good i l kept.Var s e = begins_good (core_context cx blocks) (core_locals cx.locals) _ l.ty (Begins.at_local (there i l kept.Var s e))
  local_good i l kept.Place s e = begins_good (core_context cx blocks) (core_locals cx.locals) _ l.ty (Begins.at_bound_local (there i l kept.Place s e))
  local_good i l kept.Next s e = there i l kept.Next s e

  any_good : (w : List ℕ) (s : Chained) → AnyName w cx s → IsGood (core_context cx blocks) (core_locals cx.locals) s
  unfolding AnyName First IsLocal IsOwnName IsDeclaration Then
  any_good w s (inl (l, (u, i), e)) = subst (IsGood (core_context cx blocks) (core_locals cx.locals)) (sym e) (local_good l.0 l.1 l.1.kind i.stands refl)
  any_good w s (inr (n, inl (m, (found, own, (c, e)), (d, o, h)))) = own_good w m d s (subst (IsOwn w cx) (sym e) own) o h
  any_good w s (inr (n, inr (n', inl (d, g, e)))) = subst (IsGood (core_context cx blocks) (core_locals cx.locals)) (sym e) tt
  any_good w s (inr (n, inr (n', inr (n'', (b, g, e))))) = subst (IsGood (core_context cx blocks) (core_locals cx.locals)) (sym e) tt

  -- what a name stands for
  pub name_good : (w : List ℕ) (s : Chained) → NameRule w cx s → IsGood (core_context cx blocks) (core_locals cx.locals) s
  unfolding NameRule
  name_good w s (u, h) = any_good w s h
