-- Chains of postfix parts relate well typed cores where the expressions inside do.
use Rattle.std.specs.Prelude.{◌≡◌, ℕ, Bool, true, false, List, [], ◌∷◌, ◌++◌, Option, Some, None, slice_get}
use Rattle.std.proofs.Common.{refl, sym, ap, subst, ◌∙◌}
use Rattle.swift_ast.specs.declared.tree.Arg.{Arg}
use Rattle.swift_ast.specs.declared.tree.ArgValue.TheOpen.{ExprForm-F, Part-F}
use Rattle.swift_ast.specs.declared.tree.Expr.{Expr}
use Rattle.swift_ast.specs.declared.tree.Part.{Part, out-Part}
use Rattle.swift_ast.specs.declared.tree.Selector.TheVariants as selector
use Rattle.swift_core.specs.Context.{Itself, HasMember, parts_of}
use Rattle.swift_core.specs.Mentions.{is_among_cells}
use Rattle.swift_core.specs.Types.{named_at}
use Rattle.swift_core.specs.Typing.{Has, Looks, Places, Begins, Steps, Binds, Arguments, Fillings}
use Rattle.swift_core.specs.declared.code.Code.{Code}
use Rattle.swift_core.specs.declared.table.Declaration.{Declaration}
use Rattle.swift_core.specs.declared.table.Kind.{Kind}
use Rattle.swift_core.specs.declared.table.Kind.TheVariants as kind
use Rattle.swift_core.specs.declared.table.Signature.{Signature}
use Rattle.swift_core.specs.declared.table.SignatureForm.{SignatureForm}
use Rattle.swift_core.specs.declared.table.SignatureForm.TheVariants as form
use Rattle.swift_core.specs.declared.term.ChangeCall.TheViews.{outs-Unary, outs-Binary, outs-Make, outs-Field, outs-Index, outs-Look}
use Rattle.swift_core.specs.declared.term.Core.{Core, out-Core}
use Rattle.swift_core.specs.declared.term.Core.TheVariants as core
use Rattle.swift_core.specs.declared.term.CoreHop.{CoreHop, out-CoreHop}
use Rattle.swift_core.specs.declared.term.ChangeCall.TheVariants as calls
use Rattle.swift_core.specs.declared.term.Filling.{Filling}
use Rattle.swift_core.specs.declared.term.Lookup.TheVariants as lookup
use Rattle.swift_core.specs.declared.table.ParamSignature.{ParamSignature}
use Rattle.swift_core.specs.declared.term.CoreHop.TheVariants as hop
use Rattle.swift_core.specs.declared.term.Root.{Root}
use Rattle.swift_core.specs.declared.term.Root.TheVariants as root
use Rattle.swift_core.specs.declared.term.Target.{Target, out-Target, out-roll-Target}
use Rattle.swift_core.specs.declared.ty.Ty.{Ty, out-Ty}
use Rattle.swift_core.specs.declared.ty.Ty.TheVariants as ty
use Rattle.swift_ast.specs.declared.tree.Binder.TheVariants.{Var}
use Rattle.type_base.specs.Claims.{when, some_is}
use Rattle.type_base.specs.Context.{Context}
use Rattle.type_base.specs.Names.{IsMember, member_of, member_exact}
use Rattle.type_base.specs.Rules.{Rule}
use Rattle.type_base.specs.declared.scope.Stance.{Stance}
use Rattle.type_base.specs.declared.scope.Stance.TheVariants as stance
use Rattle.post_rules.specs.declared.chained.BuiltIn.{BuiltIn}
use Rattle.post_rules.specs.declared.chained.BuiltIn.TheVariants as built_in
use Rattle.post_rules.specs.declared.chained.Effect.TheVariants as effect
use Rattle.post_rules.specs.declared.chained.Chained.{Chained}
use Rattle.post_rules.specs.declared.chained.Chained.TheVariants as chained
use Rattle.post_rules.specs.Calls.{FillingsOf, Called, Described, Made, Used, BuiltInCall, CallRule, is_data_struct, Callee, callee_at, function_called, mutating_called, method_parameters, asked, changed, built_in_parameters, built_in_called, no_arguments}
use Rattle.post_rules.specs.Chains.{StartAt, place_of, is_mutating, RootAt, is_bound, bound_of, BoundRootAt, PlaceStepAt, PlaceSteps, PlaceFrom, BindingAt, BindingRule, TargetAt, TargetRule, value_of, MemberRule, element_of, forced, StepAt, ChainRule, Post}
use Rattle.post_rules.specs.Chains as rule
use Rattle.post_rules.specs.Members.{field_in, field_at, var_field}
use Rattle.post_rules.specs.Places.{then_hop, read, change}
use Rattle.post_rules.specs.Syntax.{Form, PartForm, form_of, is_labelled}
use Rattle.expr_cores.specs.Contexts.{core_context, core_locals, itself_of, Fits, Good}
use Rattle.expr_cores.specs.Ops.{wanted_good}
use Rattle.post_cores.specs.Calls as call
use Rattle.post_cores.specs.Fillings.{arguments_good, fillings_good}
use Rattle.post_cores.specs.Members.{found_so, when_so, value_good, place_good}
use Rattle.post_cores.specs.Names.{begins_good, own_good, name_good, type_good, built_in_good}
use Rattle.post_cores.specs.Reading.{read_good, hop_good}
use Rattle.post_cores.specs.States.{IsGood, good_is, has_by}

module _ (k : Expr → Rule) (good : (e : Expr) → Good (k e)) (blocks : List Code) (cx : Context) (fit : Fits cx.table) where
  -- ---- places

  place_is : (s : Chained) (p : Target × Ty) → place_of s ≡ Some p → IsGood (core_context cx blocks) (core_locals cx.locals) s → Places (core_context cx blocks) (core_locals cx.locals) p.0 p.1
  place_is (chained.Place q t) p e g = subst (λ (x : Target × Ty). Places (core_context cx blocks) (core_locals cx.locals) x.0 x.1) (some_is (q, t) p e) g
  place_is _ p e g = cc

  changes_itself : (s : Stance) → is_mutating s ≡ true → itself_of s ≡ Itself.a_changed_value
  changes_itself stance.Mutating e = refl
  changes_itself _ e = cc

  root_good : (F : Form) (p : Target × Ty) → RootAt F cx p → Places (core_context cx blocks) (core_locals cx.locals) p.0 p.1
  unfolding RootAt
  root_good (ExprForm-F.Name w) p (s, h, e) = place_is s p e (name_good blocks cx w s h)
  root_good ExprForm-F.Itself p (m, (d, o, e)) =
      subst (λ (x : Target × Ty). Places (core_context cx blocks) (core_locals cx.locals) x.0 x.1) (sym e)
      (begins_good (core_context cx blocks) (core_locals cx.locals) root.Itself (ty.Named d) (Begins.at_itself (changes_itself cx.stance m) o))
  root_good _ p h = absurd h

  field_by : (t : Ty) (d m : ℕ) (declaration : Declaration) (s : Signature) (x : ℕ × Ty) → named_at (out-Ty t) ≡ Some d → slice_get cx.table.declarations d ≡ Some declaration → slice_get declaration.members m ≡ Some s
      → (f : SignatureForm) → s.form ≡ f → field_in f ≡ Some x → Steps (core_context cx blocks) (core_locals cx.locals) t (out-CoreHop (hop.Field x.0)) x.1
  field_by t d m declaration s x n sd sm (form.Stored at Var (Some u) a) g j =
      subst (λ (y : ℕ × Ty). Steps (core_context cx blocks) (core_locals cx.locals) t (out-CoreHop (hop.Field y.0)) y.1) (some_is (at, u) x j)
      (subst (λ z. Steps (core_context cx blocks) (core_locals cx.locals) t z u) (sym (outs-Field at)) (Steps.to_field n (HasMember.member m sd sm) g))
  field_by t d m declaration s x n sd sm _ g j = cc

  field_of : (t : Ty) (d : ℕ) (declaration : Declaration) (x : ℕ × Ty) → named_at (out-Ty t) ≡ Some d → slice_get cx.table.declarations d ≡ Some declaration → (w : List ℕ) (o : Option (ℕ × Signature)) → member_of w declaration ≡ o
      → field_at o ≡ Some x → Steps (core_context cx blocks) (core_locals cx.locals) t (out-CoreHop (hop.Field x.0)) x.1
  unfolding IsMember
  field_of t d declaration x n sd w None e h = cc
  field_of t d declaration x n sd w (Some m) e h = field_by t d m.0 declaration m.1 x n sd ((member_exact w declaration m).0 e).1 m.1.form refl h

  var_good : (t : Ty) (w : List ℕ) (x : ℕ × Ty) → var_field cx.table t w ≡ Some x → Steps (core_context cx blocks) (core_locals cx.locals) t (out-CoreHop (hop.Field x.0)) x.1
  unfolding var_field
  var_good t w x h = found_so (Steps (core_context cx blocks) (core_locals cx.locals) t (out-CoreHop (hop.Field x.0)) x.1) h
      (λ d n g. found_so (Steps (core_context cx blocks) (core_locals cx.locals) t (out-CoreHop (hop.Field x.0)) x.1) g (λ declaration sd j. field_of t d declaration x n sd w (member_of w declaration) refl j))

  place_step_good : (p : Target × Ty) (part : PartForm) (q : Target × Ty) → PlaceStepAt k p part cx q → Places (core_context cx blocks) (core_locals cx.locals) p.0 p.1 → Places (core_context cx blocks) (core_locals cx.locals) q.0 q.1
  unfolding PlaceStepAt
  place_step_good p (Part-F.Member (selector.Name w)) q (x, v, e) g =
      subst (λ (y : Target × Ty). Places (core_context cx blocks) (core_locals cx.locals) y.0 y.1) (sym e) (hop_good (core_context cx blocks) (core_locals cx.locals) p.0 (hop.Field x.0) p.1 x.1 g (var_good p.1 w x v))
  place_step_good p (Part-F.Index i) q (t, l, (c, w, e)) g =
      subst (λ (y : Target × Ty). Places (core_context cx blocks) (core_locals cx.locals) y.0 y.1) (sym e)
      (hop_good (core_context cx blocks) (core_locals cx.locals) p.0 (hop.Index c) p.1 t g
      (subst (λ z. Steps (core_context cx blocks) (core_locals cx.locals) p.1 z t) (sym (outs-Index c)) (Steps.to_element l (wanted_good (good i) blocks cx ty.Int c fit w))))
  place_step_good p _ q h g = absurd h

  place_steps_good : (p : Target × Ty) (parts : List Part) (r : Target × Ty) → PlaceSteps k p parts cx r → Places (core_context cx blocks) (core_locals cx.locals) p.0 p.1 → Places (core_context cx blocks) (core_locals cx.locals) r.0 r.1
  unfolding PlaceSteps
  place_steps_good p [] r (b, e) g = subst (λ (y : Target × Ty). Places (core_context cx blocks) (core_locals cx.locals) y.0 y.1) (sym e) g
  place_steps_good p (part ∷ parts) r (b, (q, s, h)) g = place_steps_good q parts r h (place_step_good p (out-Part part) q s g)

  target_at_good : (F : Form) (r : Target × Ty) → TargetAt k F cx r → Places (core_context cx blocks) (core_locals cx.locals) r.0 r.1
  unfolding TargetAt PlaceFrom
  target_at_good (ExprForm-F.Post operand parts) r (p, g, h) = place_steps_good p parts r h (root_good (form_of operand) p g)
  target_at_good F r (p, g, h) = place_steps_good p [] r h (root_good F p g)

  -- the place that an assignment writes is well typed
  pub target_good : (e : Expr) (r : Target × Ty) → TargetRule k e cx r → Places (core_context cx blocks) (core_locals cx.locals) r.0 r.1
  unfolding TargetRule
  target_good e r h = target_at_good (form_of e) r h

  -- ---- bindings

  keeps_root : (p : Target) (h : CoreHop) → (out-Target (then_hop p h)).root ≡ (out-Target p).root
  keeps_root p h = ap (λ x. x.root) (out-roll-Target (record { root = (out-Target p).root; hops = (out-Target p).hops ++ h ∷ [] }))

  bound_step : (p : Target × Ty) (part : PartForm) (q : Target × Ty) → PlaceStepAt k p part cx q → is_bound (out-Target p.0).root ≡ true → is_bound (out-Target q.0).root ≡ true
  unfolding PlaceStepAt
  bound_step p (Part-F.Member (selector.Name w)) q (x, v, e) g = subst (λ (y : Target × Ty). is_bound (out-Target y.0).root ≡ true) (sym e) (ap is_bound (keeps_root p.0 (hop.Field x.0)) ∙ g)
  bound_step p (Part-F.Index i) q (t, l, (c, w, e)) g = subst (λ (y : Target × Ty). is_bound (out-Target y.0).root ≡ true) (sym e) (ap is_bound (keeps_root p.0 (hop.Index c)) ∙ g)
  bound_step p _ q h g = absurd h

  bound_steps : (p : Target × Ty) (parts : List Part) (r : Target × Ty) → PlaceSteps k p parts cx r → is_bound (out-Target p.0).root ≡ true → is_bound (out-Target r.0).root ≡ true
  unfolding PlaceSteps
  bound_steps p [] r (b, e) g = subst (λ (y : Target × Ty). is_bound (out-Target y.0).root ≡ true) (sym e) g
  bound_steps p (part ∷ parts) r (b, (q, s, h)) g = bound_steps q parts r h (bound_step p (out-Part part) q s g)

  among : (r : Root) → is_bound r ≡ true → is_among_cells r ≡ true
  among (root.Local at) e = cc
  among root.Itself e = cc
  among (root.BoundLocal at) e = refl
  among (root.BoundInput at) e = refl
  among (root.Slot place) e = refl

  test_is : {B : Type 0} (b : Bool) (o : Option B) {r : B} → when b o ≡ Some r → b ≡ true
  test_is true o e = refl
  test_is false o e = cc

  abbrev IsBound : Target × Ty → Type 0
  IsBound p = (is_bound (out-Target p.0).root ≡ true) × Places (core_context cx blocks) (core_locals cx.locals) p.0 p.1

  bound_is : (s : Chained) (p : Target × Ty) → bound_of s ≡ Some p → IsGood (core_context cx blocks) (core_locals cx.locals) s → IsBound p
  bound_is (chained.Place q t) p e g = subst IsBound (some_is (q, t) p (when_so _ _ e)) (test_is _ _ e, g)
  bound_is _ p e g = cc

  bound_root_good : (F : Form) (p : Target × Ty) → BoundRootAt F cx p → IsBound p
  unfolding BoundRootAt
  bound_root_good (ExprForm-F.Dollar marked) p (w, u, (s, h, e)) = bound_is s p e (name_good blocks cx w s h)
  bound_root_good _ p h = absurd h

  bound_from : (F : Form) (parts : List Part) (r : Target × Ty) → PlaceFrom k (BoundRootAt F) parts cx r → Binds (core_context cx blocks) (core_locals cx.locals) r.0 r.1
  unfolding PlaceFrom
  bound_from F parts r (p, g, h) =
      let b = bound_root_good F p g in
      Binds.bound (among (out-Target r.0).root (bound_steps p parts r h b.0)) (place_steps_good p parts r h b.1)

  binding_at_good : (F : Form) (r : Target × Ty) → BindingAt k F cx r → Binds (core_context cx blocks) (core_locals cx.locals) r.0 r.1
  unfolding BindingAt
  binding_at_good (ExprForm-F.Post operand parts) r h = bound_from (form_of operand) parts r h
  binding_at_good F r h = bound_from F [] r h

  -- the place that a binding stands for can be bound
  pub binding_good : (e : Expr) (r : Target × Ty) → BindingRule k e cx r → Binds (core_context cx blocks) (core_locals cx.locals) r.0 r.1
  unfolding BindingRule
  binding_good e r h = binding_at_good (form_of e) r h

  -- what fills the properties of a declaration fits them
  pub fillings_fit : (d : ℕ) (declaration : Declaration) (args : List Arg) (fs : List Filling) → slice_get cx.table.declarations d ≡ Some declaration → FillingsOf k (BindingRule k) declaration.members args cx fs
      → Fillings (core_context cx blocks) (core_locals cx.locals) fs (parts_of declaration.members)
  fillings_fit d declaration args fs sd h = fillings_good k good blocks cx fit (BindingRule k) binding_good declaration.members args fs (fit.nils d declaration sd) h

  -- ---- calls

  called_good : (ps : List ParamSignature) (make : List Core → Option Chained) (args : List Arg) (r : Chained)
      → ((cs : List Core) → Arguments (core_context cx blocks) (core_locals cx.locals) cs ps → make cs ≡ Some r → IsGood (core_context cx blocks) (core_locals cx.locals) r)
      → Called k ps make args cx r → IsGood (core_context cx blocks) (core_locals cx.locals) r
  unfolding Called
  called_good ps make args r made (cs, a, e) = made cs (arguments_good k good blocks cx fit ps args cs a) e

  data_kind : (f : Kind) → is_data_struct f ≡ true → (b : Bool) × (f ≡ kind.Data b)
  data_kind (kind.Data b) e = (b, refl)
  data_kind _ e = cc

  made_good : (d : ℕ) (args : List Arg) (r : Chained) → Made k (BindingRule k) d args cx r → IsGood (core_context cx blocks) (core_locals cx.locals) r
  unfolding Made
  made_good d args r (declaration, sd, (is, (fs, f, e))) =
      let q = data_kind declaration.kind is in
      subst (IsGood (core_context cx blocks) (core_locals cx.locals)) (sym e)
      (has_by (core_context cx blocks) (core_locals cx.locals) _ (outs-Make d fs) (Has.make sd q.1 (fillings_fit d declaration args fs sd f)))

  described_call : (args : List Arg) (r : Chained) → Described k args cx r → IsGood (core_context cx blocks) (core_locals cx.locals) r
  unfolding Described
  described_call [] r h = absurd h
  described_call (a ∷ b ∷ args) r h = absurd h
  described_call (a ∷ []) r (e, ae, (x, h, d)) = call.described_good (core_context cx blocks) (core_locals cx.locals) x.0 x.1 (good e blocks cx None x fit h) (out-Ty x.1) r refl d

  used_good : (d m : ℕ) (make : Callee → List Core → Chained) (args : List Arg) (r : Chained)
      → ((used : Callee) (cs : List Core) → callee_at cx.table d m ≡ Some used → Arguments (core_context cx blocks) (core_locals cx.locals) cs used.parameters → IsGood (core_context cx blocks) (core_locals cx.locals) (make used cs))
      → Used k d m make args cx r → IsGood (core_context cx blocks) (core_locals cx.locals) r
  unfolding Used
  used_good d m make args r made (used, c, h) =
      called_good used.parameters (λ cs. Some (make used cs)) args r (λ cs a e. good_is (core_context cx blocks) (core_locals cx.locals) e (made used cs c a)) h

  standing_good : (b : BuiltIn) (args : List Arg) (r : Chained) → Called k (built_in_parameters b) (built_in_called b) args cx r → IsGood (core_context cx blocks) (core_locals cx.locals) r
  standing_good b args r h = called_good (built_in_parameters b) (built_in_called b) args r (λ cs a e. call.built_in_good (core_context cx blocks) (core_locals cx.locals) b cs r a e) h

  built_in_call_good : (b : BuiltIn) (l : Bool) (args : List Arg) (r : Chained) → BuiltInCall k b l args cx r → IsGood (core_context cx blocks) (core_locals cx.locals) r
  unfolding BuiltInCall
  built_in_call_good built_in.Int l args r h = absurd h
  built_in_call_good built_in.Text false args r h = described_call args r h
  built_in_call_good built_in.Text true args r h = standing_good built_in.Text args r h
  built_in_call_good built_in.Absolute l args r h = standing_good built_in.Absolute args r h
  built_in_call_good built_in.Min l args r h = standing_good built_in.Min args r h
  built_in_call_good built_in.Max l args r h = standing_good built_in.Max args r h

  nothing_taken : (x r : Chained) (cs : List Core) → IsGood (core_context cx blocks) (core_locals cx.locals) x → no_arguments x cs ≡ Some r → IsGood (core_context cx blocks) (core_locals cx.locals) r
  nothing_taken x r [] g e = good_is (core_context cx blocks) (core_locals cx.locals) e g
  nothing_taken x r (c ∷ cs) g e = cc

  call_good : (s : Chained) (args : List Arg) (r : Chained) → IsGood (core_context cx blocks) (core_locals cx.locals) s → CallRule k (BindingRule k) s args cx r → IsGood (core_context cx blocks) (core_locals cx.locals) r
  unfolding CallRule
  call_good (chained.Named d) args r g h = made_good d args r h
  call_good (chained.BuiltIn b) args r g h = built_in_call_good b (is_labelled args) args r h
  call_good (chained.Next at t) args r g h =
      called_good [] (no_arguments (chained.Value (core.Look (lookup.Local at)) t)) args r
      (λ cs a e. nothing_taken (chained.Value (core.Look (lookup.Local at)) t) r cs (has_by (core_context cx blocks) (core_locals cx.locals) _ (outs-Look _) (Has.name (Looks.local g))) e) h
  call_good (chained.Function receiver d m) args r g h =
      used_good d m (function_called receiver) args r (λ used cs c a. call.function_good (core_context cx blocks) (core_locals cx.locals) d m receiver g.1 used cs c g.0 a) h
  call_good (chained.Mutating p d m) args r g h =
      used_good d m (mutating_called p) args r (λ used cs c a. call.mutating_good (core_context cx blocks) (core_locals cx.locals) p g.0 d m g.2.1 used cs c g.1 g.2.0 a) h
  call_good (chained.Asks c t m) args r g h =
      called_good (method_parameters m (is_labelled args) t) (asked m c) args r
      (λ cs a e. call.asked_good (core_context cx blocks) (core_locals cx.locals) m (is_labelled args) c g.0 t cs r g.1 g.2 a e) h
  call_good (chained.Changes p t m) args r g h =
      called_good (method_parameters m (is_labelled args) t) (changed p t m (is_labelled args)) args r
      (λ cs a e. call.changed_good (core_context cx blocks) (core_locals cx.locals) p m (is_labelled args) g.0 t cs r g.1 g.2 a e) h
  call_good (chained.Toggles p) args r g h =
      called_good [] (no_arguments (chained.Effect (effect.Change (change p calls.Toggle)))) args r
      (λ cs a e. nothing_taken (chained.Effect (effect.Change (change p calls.Toggle))) r cs (call.toggle_good (core_context cx blocks) (core_locals cx.locals) p g) e) h
  call_good (chained.Value c t) args r g h = absurd h
  call_good (chained.Place p t) args r g h = absurd h
  call_good chained.Itself args r g h = absurd h
  call_good (chained.Indices c) args r g h = absurd h
  call_good (chained.Effect e) args r g h = absurd h

  -- ---- parts

  member_good : (s : Chained) (w : List ℕ) (r : Chained) → IsGood (core_context cx blocks) (core_locals cx.locals) s → MemberRule s w cx r → IsGood (core_context cx blocks) (core_locals cx.locals) r
  unfolding MemberRule
  member_good (chained.Value c t) w r g h = value_good (core_context cx blocks) (core_locals cx.locals) c t w r g h
  member_good (chained.Place p t) w r g h = place_good (core_context cx blocks) (core_locals cx.locals) p t w r g h
  member_good chained.Itself w r g (m, o, (d, od, e)) = own_good blocks cx w m d r o od e
  member_good (chained.Named d) w r g h = type_good (core_context cx blocks) (core_locals cx.locals) fit d w r h
  member_good (chained.BuiltIn b) w r g h = built_in_good (core_context cx blocks) (core_locals cx.locals) b w r h
  member_good _ w r g h = absurd h

  element_good : (s : Chained) (i : Core) (r : Chained) → IsGood (core_context cx blocks) (core_locals cx.locals) s → Has (core_context cx blocks) (core_locals cx.locals) (out-Core i) ty.Int → element_of s i ≡ Some r
      → IsGood (core_context cx blocks) (core_locals cx.locals) r
  element_good (chained.Value c t) i r g n h =
      found_so (IsGood (core_context cx blocks) (core_locals cx.locals) r) h (λ u e q. good_is (core_context cx blocks) (core_locals cx.locals) q
      (has_by (core_context cx blocks) (core_locals cx.locals) _ (outs-Binary _ _ _) (Has.element g e n)))
  element_good (chained.Place p t) i r g n h =
      found_so (IsGood (core_context cx blocks) (core_locals cx.locals) r) h (λ u e q. good_is (core_context cx blocks) (core_locals cx.locals) q
      (hop_good (core_context cx blocks) (core_locals cx.locals) p (hop.Index i) t u g
      (subst (λ z. Steps (core_context cx blocks) (core_locals cx.locals) t z u) (sym (outs-Index i)) (Steps.to_element e n))))
  element_good _ i r g n h = cc

  pub value_is : (s : Chained) (x : Core × Ty) → value_of s ≡ Some x → IsGood (core_context cx blocks) (core_locals cx.locals) s → Has (core_context cx blocks) (core_locals cx.locals) (out-Core x.0) x.1
  value_is (chained.Value c t) x e g = subst (λ (y : Core × Ty). Has (core_context cx blocks) (core_locals cx.locals) (out-Core y.0) y.1) (some_is (c, t) x e) g
  value_is (chained.Place p t) x e g =
      subst (λ (y : Core × Ty). Has (core_context cx blocks) (core_locals cx.locals) (out-Core y.0) y.1) (some_is (read p, t) x e) (read_good (core_context cx blocks) (core_locals cx.locals) p t g)
  value_is _ x e g = cc

  forced_good : (x : Core × Ty) (r : Chained) → Has (core_context cx blocks) (core_locals cx.locals) (out-Core x.0) x.1 → forced x ≡ Some r → IsGood (core_context cx blocks) (core_locals cx.locals) r
  forced_good x r g h =
      found_so (IsGood (core_context cx blocks) (core_locals cx.locals) r) h (λ t e q. good_is (core_context cx blocks) (core_locals cx.locals) q
      (has_by (core_context cx blocks) (core_locals cx.locals) _ (outs-Unary _ _) (Has.force g e)))

  step_good : (s : Chained) (part : PartForm) (r : Chained) → IsGood (core_context cx blocks) (core_locals cx.locals) s → StepAt k s part cx r → IsGood (core_context cx blocks) (core_locals cx.locals) r
  unfolding StepAt
  step_good s (Part-F.Member (selector.Name w)) r g h = member_good s w r g h
  step_good s (Part-F.Call args None) r g h = call_good s args r g h
  step_good s (Part-F.Index e) r g (c, w, q) = element_good s c r g (wanted_good (good e) blocks cx ty.Int c fit w) q
  step_good s Part-F.Force r g (x, v, q) = forced_good x r (value_is s x v g) q
  step_good s _ r g h = absurd h

  steps_good : (s : Chained) (parts : List Part) (r : Chained) → IsGood (core_context cx blocks) (core_locals cx.locals) s → rule.Steps k s parts cx r → IsGood (core_context cx blocks) (core_locals cx.locals) r
  unfolding rule.Steps
  steps_good s [] r g (b, e) = subst (IsGood (core_context cx blocks) (core_locals cx.locals)) (sym e) g
  steps_good s (part ∷ parts) r g (b, (q, a, h)) = steps_good q parts r (step_good s (out-Part part) q g a) h

  started : (e : Expr) (s : Chained) → ((x : Core × Ty) × k e cx None x × (s ≡ chained.Value x.0 x.1)) → IsGood (core_context cx blocks) (core_locals cx.locals) s
  started e s (x, h, q) = subst (IsGood (core_context cx blocks) (core_locals cx.locals)) (sym q) (good e blocks cx None x fit h)

  start_good : (e : Expr) (F : Form) (s : Chained) → StartAt k e F cx s → IsGood (core_context cx blocks) (core_locals cx.locals) s
  unfolding StartAt
  start_good e (ExprForm-F.Name w) s h = name_good blocks cx w s h
  start_good e ExprForm-F.Itself s (m, q) = subst (IsGood (core_context cx blocks) (core_locals cx.locals)) (sym q) tt
  start_good e (ExprForm-F.Ternary c a b) s h = started e s h
  start_good e (ExprForm-F.Chain a ls) s h = started e s h
  start_good e (ExprForm-F.Prefix ss a) s h = started e s h
  start_good e (ExprForm-F.Post a ps) s h = started e s h
  start_good e (ExprForm-F.Int n) s h = started e s h
  start_good e (ExprForm-F.ExprForm::Text ss) s h = started e s h
  start_good e ExprForm-F.True s h = started e s h
  start_good e ExprForm-F.False s h = started e s h
  start_good e ExprForm-F.Nil s h = started e s h
  start_good e (ExprForm-F.Dollar w) s h = started e s h
  start_good e (ExprForm-F.Implicit w) s h = started e s h
  start_good e (ExprForm-F.List es) s h = started e s h

  -- what a chain is is well typed
  pub chain_good : (e : Expr) (parts : List Part) (s : Chained) → ChainRule k e parts cx s → IsGood (core_context cx blocks) (core_locals cx.locals) s
  unfolding ChainRule
  chain_good e parts s (b, h, g) = steps_good b parts s (start_good e (form_of e) b h) g

  pub post_has : (e : Expr) (parts : List Part) (want : Option Ty) (r : Core × Ty) → Post k e parts cx want r → Has (core_context cx blocks) (core_locals cx.locals) (out-Core r.0) r.1
  unfolding Post
  post_has e parts want r (s, h, v) = value_is s r v (chain_good e parts s h)

-- chains relate well typed cores where the expressions inside do
pub post_good : (k : Expr → Rule) → ((e : Expr) → Good (k e)) → (e : Expr) (parts : List Part) → Good (Post k e parts)
post_good k good e parts blocks cx want r fit h = post_has k good blocks cx fit e parts want r h
