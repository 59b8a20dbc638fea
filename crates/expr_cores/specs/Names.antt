-- What a name becomes is well typed.
use Rattle.std.specs.Prelude.{◌≡◌, ℕ, true, List, Option, Some, None, slice_get}
use Rattle.std.proofs.Common.{refl, sym, ap, subst, inl, inr}
use Rattle.sv_value.specs.declared.value.Value.TheViews as value_view
use Rattle.swift_core.specs.Context as cores
use Rattle.swift_core.specs.Context.{Itself, HasMember, OwnMember}
use Rattle.swift_core.specs.Typing.{Has, Looks, Uses, Invokes, Receives, Arguments, is_value, is_there}
use Rattle.swift_core.specs.Values.{HasValueAt}
use Rattle.swift_core.specs.declared.code.Code.{Code}
use Rattle.swift_core.specs.declared.table.EnvironmentKey.{EnvironmentKey}
use Rattle.swift_core.specs.declared.table.Signature.{Signature}
use Rattle.swift_core.specs.declared.table.SignatureForm.{SignatureForm}
use Rattle.swift_core.specs.declared.table.SignatureForm.TheVariants as form
use Rattle.swift_core.specs.declared.term.Core.{Core, out-Core}
use Rattle.swift_core.specs.declared.term.ChangeCall.TheViews.{outs-Look, outs-Static, outs-Invoke, outs-Literal}
use Rattle.swift_core.specs.declared.term.Core.TheVariants as core
use Rattle.swift_core.specs.declared.term.Lookup.TheVariants as lookup
use Rattle.swift_core.specs.declared.term.ChangeCall.TheViews.{outs-Same}
use Rattle.swift_core.specs.declared.ty.Ty.{Ty}
use Rattle.swift_core.specs.declared.ty.Ty.TheViews as ty_view
use Rattle.type_base.specs.Claims.{Then, some_is}
use Rattle.type_base.specs.Context.{Context}
use Rattle.type_base.specs.Names.{IsLocal, IsOwn, IsOwner, IsMember}
use Rattle.type_base.specs.declared.scope.Stance.{Stance}
use Rattle.type_base.specs.declared.scope.Stance.TheVariants as stance
use Rattle.expr_rules.specs.Ops.{Named, Implicit, own_value, view_value, data_value, key_value, typed_core, computed, key_type, case_place}
use Rattle.expr_cores.specs.Contexts.{core_context, core_locals, itself_of, Good}
use Rattle.expr_cores.specs.Ops.{made, has_value, local_good}

pair_is : {c : Core} {t : Ty} {r : Core × Ty} → ◌≡◌ {A = Option (Core × Ty)} (Some (c, t)) (Some r) → r ≡ (c, t)
pair_is {c = c} {t = t} {r = r} e = sym (some_is (c, t) r e)

-- a use of a computed property of `self`
computed_good : (cx : cores.Context) (ls : List cores.Local) (s : Signature) (d : ℕ) (t : Ty) (r : Core × Ty) → is_there cx.itself ≡ true → cx.owner ≡ Some d → HasMember cx.table d s
    → s.form ≡ form.Computed (Some t) → r ≡ (computed s.code, t) → Has cx ls (out-Core r.0) r.1
computed_good cx ls s d t r th o m f e =
    made e (outs-Invoke _) (Has.invoke (Invokes.uses m refl (Uses.computed f) (subst (λ x. Receives cx ls x d) (sym outs-Same) (Receives.same th o)) Arguments.no_arguments))

module _ (cx : cores.Context) (ls : List cores.Local) (s : Signature) (d : ℕ) (o : cx.owner ≡ Some d) (m : HasMember cx.table d s) where
  key_typed : cx.itself ≡ Itself.a_view → (key : ℕ) (k : EnvironmentKey) (t : Option Ty) (r : Core × Ty) → slice_get cx.table.environment key ≡ Some k → k.ty ≡ t
      → typed_core (core.Look (lookup.Environment key)) t ≡ Some r → Has cx ls (out-Core r.0) r.1
  key_typed v key k None r e f h = cc
  key_typed v key k (Some t) r e f h = made (pair_is h) (outs-Look _) (Has.name (Looks.environment v e f))

  key_good : cx.itself ≡ Itself.a_view → (key : ℕ) (k : Option EnvironmentKey) (r : Core × Ty) → slice_get cx.table.environment key ≡ k
      → typed_core (core.Look (lookup.Environment key)) (key_type k) ≡ Some r → Has cx ls (out-Core r.0) r.1
  key_good v key None r e h = cc
  key_good v key (Some k) r e h = key_typed v key k k.ty r e refl h

  view_good : cx.itself ≡ Itself.a_view → (f : SignatureForm) (r : Core × Ty) → s.form ≡ f → view_value cx.table.environment s.code f ≡ Some r → Has cx ls (out-Core r.0) r.1
  view_good v (form.Stored at b (Some t) a) r e h = made (pair_is h) (outs-Look _) (Has.name (Looks.input v (d, o, m) e))
  view_good v (form.State at (Some t) a) r e h = made (pair_is h) (outs-Look _) (Has.name (Looks.slot v (d, o, m) e))
  view_good v (form.Binding at (Some t)) r e h = made (pair_is h) (outs-Look _) (Has.name (Looks.bound_input v (d, o, m) e))
  view_good v (form.Environment key) r e h = key_good v key (slice_get cx.table.environment key) r refl h
  view_good v (form.Computed (Some t)) r e h = computed_good cx ls s d t r (ap is_there v) o m e (pair_is h)
  view_good v _ r e h = cc

  data_good : is_value cx.itself ≡ true → is_there cx.itself ≡ true → (f : SignatureForm) (r : Core × Ty) → s.form ≡ f → data_value s.code f ≡ Some r → Has cx ls (out-Core r.0) r.1
  data_good v th (form.Stored at b (Some t) a) r e h = made (pair_is h) (outs-Look _) (Has.name (Looks.own_field v (d, o, m) e))
  data_good v th (form.Computed (Some t)) r e h = computed_good cx ls s d t r th o m e (pair_is h)
  data_good v th _ r e h = cc

  static_good : (f : SignatureForm) (r : Core × Ty) → s.form ≡ f → key_value s.code f ≡ Some r → Has cx ls (out-Core r.0) r.1
  static_good (form.Static (Some t)) r e h = made (pair_is h) (outs-Static _) (Has.static m refl e)
  static_good _ r e h = cc

own_good : (blocks : List Code) (cx : Context) (ls : List cores.Local) (s : Signature) (d : ℕ) (r : Core × Ty) (st : Stance) → cx.stance ≡ st → cx.owner ≡ Some d → HasMember cx.table d s
    → own_value st cx.table.environment s.code s.form ≡ Some r → Has (core_context cx blocks) ls (out-Core r.0) r.1
unfolding own_value
own_good blocks cx ls s d r stance.View e o m h = view_good (core_context cx blocks) ls s d o m (ap itself_of e) s.form r refl h
own_good blocks cx ls s d r stance.Data e o m h = data_good (core_context cx blocks) ls s d o m (ap (λ x. is_value (itself_of x)) e) (ap (λ x. is_there (itself_of x)) e) s.form r refl h
own_good blocks cx ls s d r stance.Mutating e o m h = data_good (core_context cx blocks) ls s d o m (ap (λ x. is_value (itself_of x)) e) (ap (λ x. is_there (itself_of x)) e) s.form r refl h
own_good blocks cx ls s d r stance.Key e o m h = static_good (core_context cx blocks) ls s d o m s.form r refl h
own_good blocks cx ls s d r stance.Outside e o m h = cc
own_good blocks cx ls s d r stance.Initial e o m h = cc

pub named_good : (w : List ℕ) → Good (Named w)
unfolding Named IsLocal IsOwn IsOwner IsMember Then
named_good w blocks cx want r fit (inl (found, (u, i), (c, v, e))) =
    subst (λ (x : Core × Ty). Has (core_context cx blocks) (core_locals cx.locals) (out-Core x.0) x.1) (sym e) (local_good (core_context cx blocks) cx.locals found.0 found.1 c found.1.kind i.stands refl v)
named_good w blocks cx want r fit (inr (n, (u, (m, (owner, (o, sd), (g, sm)), h)))) =
    own_good blocks cx (core_locals cx.locals) m.1 owner.0 r cx.stance refl o (HasMember.member m.0 sd sm) h

case_form : (f : SignatureForm) (at : ℕ) → case_place f ≡ Some at → f ≡ form.Case at
case_form (form.Case k) at e = let h : k ≡ at = some_is k at e in ap form.Case h
case_form _ at e = cc

pub implicit_good : (w : List ℕ) → Good (Implicit w)
unfolding Implicit IsMember
implicit_good w blocks cx want r fit (t, ew, (d, nd, (declaration, sd, (m, (g, sm), (at, cp, e))))) =
    let c = fit.cases d m.0 at declaration m.1 sd sm (case_form m.1.form at cp) in
    made e (outs-Literal _) (Has.literal (has_value _ _ cx.table (ty_view.outs-Named d) (value_view.outs-Case d at) (HasValueAt.case sd c.1.1 c.1.2)))
