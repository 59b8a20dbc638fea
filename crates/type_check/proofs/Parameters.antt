-- The parameters of a function, one after another.
use Rattle.std.proofs.Common.{◌≡◌, ℕ, zero, suc, ◌+◌, ◌<◌, List, [], ◌∷◌, length, drop, Option, Some, None, Err, slice_get, get_or, refl, ap, subst, arith, true, false, Bool}
use Rattle.std.proofs.lemmas.Option.{slice_get_read}
use Rattle.swift_core.specs.declared.ty.Ty.{Ty}
use Rattle.swift_core.specs.declared.table.ParamSignature.{ParamSignature}
use Rattle.swift_ast.specs.declared.piece.Param.{Param}
use Rattle.type_base.specs.declared.fault.Fault.{Fault}
use Rattle.type_base.specs.declared.fault.Fault.TheVariants.{NotTyped, OutOfMemory}
use Rattle.type_base.specs.declared.scope.Scope.{Scope}
use Rattle.type_base.specs.declared.scope.LocalKind.TheVariants as local
use Rattle.type_base.specs.Claims.{and_then, when}
use Rattle.type_base.specs.Context.{Context}
use Rattle.type_base.specs.Names.{is_new}
use Rattle.type_base.specs.Scopes.{with_local}
use Rattle.member_rules.specs.Members.{parameter, with_parameters}
use Rattle.type_check.specs.Scoped.{Scoped}

one_new : (b : Bool) (cx cx' : Context) (f : Context → Option Context) → when b (Some cx) ≡ Some cx' → when b (f cx) ≡ f cx'
one_new true cx cx' f e = let h : cx ≡ cx' = cc in ap f h
one_new false cx cx' f e = cc

none_new : (b : Bool) (cx : Context) (f : Context → Option Context) → when b (Some cx) ≡ None → when b (f cx) ≡ None
none_new true cx f e = cc
none_new false cx f e = refl

when_none : (b : Bool) (o : Option Context) → o ≡ None → when b o ≡ None
when_none true o e = e
when_none false o e = refl

-- where the first parameter is taken, the others follow
first_taken : (ty : Option Ty) (p : Param) (ss : List ParamSignature) (ps : List Param) (cx cx' : Context)
    → and_then ty (λ t. when (is_new p.name cx) (Some (with_local cx (parameter p local.Let t)))) ≡ Some cx'
    → and_then ty (λ t. when (is_new p.name cx) (with_parameters ss ps (with_local cx (parameter p local.Let t)))) ≡ with_parameters ss ps cx'
unfolding and_then
first_taken None p ss ps cx cx' e = cc
first_taken (Some t) p ss ps cx cx' e = one_new (is_new p.name cx) (with_local cx (parameter p local.Let t)) cx' (with_parameters ss ps) e

first_refused : (ty : Option Ty) (p : Param) (ss : List ParamSignature) (ps : List Param) (cx : Context)
    → and_then ty (λ t. when (is_new p.name cx) (Some (with_local cx (parameter p local.Let t)))) ≡ None
    → and_then ty (λ t. when (is_new p.name cx) (with_parameters ss ps (with_local cx (parameter p local.Let t)))) ≡ None
unfolding and_then
first_refused None p ss ps cx e = refl
first_refused (Some t) p ss ps cx e = none_new (is_new p.name cx) (with_local cx (parameter p local.Let t)) (with_parameters ss ps) e

none_after : (ty : Option Ty) (b : Bool) (f : Ty → Option Context) → ((t : Ty) → f t ≡ None) → and_then ty (λ t. when b (f t)) ≡ None
unfolding and_then
none_after None b f h = refl
none_after (Some t) b f h = when_none b (f t) (h t)

pub different_lengths : (ss : List ParamSignature) (ps : List Param) (cx : Context) → (length ss ≡ length ps → ⊥) → with_parameters ss ps cx ≡ None
different_lengths [] [] cx n = absurd (n refl)
different_lengths [] (p ∷ ps) cx n = refl
different_lengths (s ∷ ss) [] cx n = refl
different_lengths (s ∷ ss) (p ∷ ps) cx n =
    none_after s.ty (is_new p.name cx) (λ t. with_parameters ss ps (with_local cx (parameter p local.Let t))) (λ t. different_lengths ss ps _ (λ e. n (ap suc e)))

taken : (i : ℕ) (ss : List ParamSignature) (ps : List Param) (s : ParamSignature) (p : Param) (cx cx' : Context)
    → slice_get ss i ≡ Some s → slice_get ps i ≡ Some p
    → with_parameters (s ∷ []) (p ∷ []) cx ≡ Some cx'
    → with_parameters (drop i ss) (drop i ps) cx ≡ with_parameters (drop (suc i) ss) (drop (suc i) ps) cx'
taken i [] ps s p cx cx' a b e = cc
taken i (x ∷ ss) [] s p cx cx' a b e = cc
taken zero (x ∷ ss) (y ∷ ps) s p cx cx' a b e =
    let h : s ≡ x = cc in
    let k : p ≡ y = cc in
    let g : with_parameters (x ∷ []) (p ∷ []) cx ≡ Some cx' = subst (λ (v : ParamSignature). with_parameters (v ∷ []) (p ∷ []) cx ≡ Some cx') h e in
    first_taken x.ty y ss ps cx cx' (subst (λ (v : Param). with_parameters (x ∷ []) (v ∷ []) cx ≡ Some cx') k g)
taken (suc i) (x ∷ ss) (y ∷ ps) s p cx cx' a b e = taken i ss ps s p cx cx' a b e

refused : (i : ℕ) (ss : List ParamSignature) (ps : List Param) (s : ParamSignature) (p : Param) (cx : Context)
    → slice_get ss i ≡ Some s → slice_get ps i ≡ Some p
    → with_parameters (s ∷ []) (p ∷ []) cx ≡ None
    → with_parameters (drop i ss) (drop i ps) cx ≡ None
refused i [] ps s p cx a b e = cc
refused i (x ∷ ss) [] s p cx a b e = cc
refused zero (x ∷ ss) (y ∷ ps) s p cx a b e =
    let h : s ≡ x = cc in
    let k : p ≡ y = cc in
    let g : with_parameters (x ∷ []) (p ∷ []) cx ≡ None = subst (λ (v : ParamSignature). with_parameters (v ∷ []) (p ∷ []) cx ≡ None) h e in
    first_refused x.ty y ss ps cx (subst (λ (v : Param). with_parameters (x ∷ []) (v ∷ []) cx ≡ None) k g)
refused (suc i) (x ∷ ss) (y ∷ ps) s p cx a b e = refused i ss ps s p cx a b e

-- a turn of the loop: one more parameter is taken
pub parameters_turn : (i : ℕ) (ss : List ParamSignature) (ps : List Param) (s : ParamSignature) (p : Param) (cx cx' : Context)
    → i < length ss → i < length ps → s ≡ get_or ss i s → p ≡ get_or ps i p
    → with_parameters (s ∷ []) (p ∷ []) cx ≡ Some cx'
    → with_parameters (drop i ss) (drop i ps) cx ≡ with_parameters (drop (i + 1) ss) (drop (i + 1) ps) cx'
parameters_turn i ss ps s p cx cx' l m a b e =
    let n : suc i ≡ i + 1 = omega arith in
    subst (λ (j : ℕ). with_parameters (drop i ss) (drop i ps) cx ≡ with_parameters (drop j ss) (drop j ps) cx') n
    (taken i ss ps s p cx cx' (slice_get_read ss (length ss) i s refl l a) (slice_get_read ps (length ps) i p refl m b) e)

-- a turn that is refused
pub parameters_end : (fault : Fault) (scope : Scope) (all : Option Context) (i : ℕ) (ss : List ParamSignature) (ps : List Param) (s : ParamSignature) (p : Param) (cx : Context)
    → all ≡ with_parameters (drop i ss) (drop i ps) cx
    → i < length ss → i < length ps → s ≡ get_or ss i s → p ≡ get_or ps i p
    → Scoped {A = Unit {0}} (Err fault) scope (with_parameters (s ∷ []) (p ∷ []) cx)
    → Scoped {A = Unit {0}} (Err fault) scope all
parameters_end NotTyped scope all i ss ps s p cx h l m a b e =
    let n : with_parameters (drop i ss) (drop i ps) cx ≡ None = refused i ss ps s p cx (slice_get_read ss (length ss) i s refl l a) (slice_get_read ps (length ps) i p refl m b) e in cc
parameters_end OutOfMemory scope all i ss ps s p cx h l m a b e = tt
