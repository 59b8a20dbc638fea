-- Members with values in them, one after the other.
use Rattle.std.specs.Prelude.{◌↔◌}
use Rattle.std.specs.List.{cons_option}
use Rattle.std.proofs.Common.{◌≡◌, ℕ, zero, suc, ◌+◌, ◌<◌, ◌≤◌, true, false, List, [], ◌∷◌, drop, length, get_or, Option, Some, None, slice_get, refl, sym, ap, subst, ◌∙◌, arith}
use Rattle.std.proofs.lemmas.Option.{slice_get_past, get_or_from_slice_get}
use Rattle.std.proofs.lemmas.List.{drop_more, drop_all}
use Rattle.sv_value.specs.declared.value.Value.{Value}
use Rattle.swift_core.specs.declared.ids.CodeId.{CodeId}
use Rattle.swift_core.specs.declared.table.Signature.{Signature}
use Rattle.swift_core.specs.declared.table.SignatureForm.{SignatureForm}
use Rattle.swift_core.specs.declared.table.SignatureForm.TheVariants as form
use Rattle.swift_core.specs.declared.table.Table.{Table}
use Rattle.swift_core.specs.declared.ty.Ty.{Ty}
use Rattle.swift_core.specs.Context.{Part, inputs_of, stored_at}
use Rattle.swift_core.specs.Values.{FieldsHaveValue}
use Rattle.value_tests.specs.Layers.{NoneSkipped, is_input, type_of_input, type_of_member}

-- ---- one member

no_part : (code : CodeId) (f : SignatureForm) → is_input f ≡ false → stored_at code f ≡ None
no_part code (form.Stored n b t a) e = cc
no_part code (form.Binding n t) e = cc
no_part code _ e = refl

some_part : (code : CodeId) (f : SignatureForm) → is_input f ≡ true → (p : Part) × (stored_at code f ≡ Some p) × (p.ty ≡ type_of_input f)
some_part code (form.Stored n b t a) e = (_, refl, refl)
some_part code (form.Binding n t) e = (_, refl, refl)
some_part code _ e = cc

typed_part : (code : CodeId) (f : SignatureForm) (t : Ty) → type_of_input f ≡ Some t → (p : Part) × (stored_at code f ≡ Some p) × (p.ty ≡ Some t)
typed_part code (form.Stored n b u a) t e = (_, refl, e)
typed_part code (form.Binding n u) t e = (_, refl, e)
typed_part code _ t e = cc

-- ---- several

step : (ms : List Signature) (at : ℕ) (m : Signature) → at < length ms → m ≡ get_or ms at m → drop at ms ≡ m ∷ drop (at + 1) ms
step ms at m h e = drop_more ms at m h ∙ ap (λ (x : Signature). x ∷ drop (at + 1) ms) (sym e)

pub skip_turn : (ms : List Signature) (from at : ℕ) (m : Signature) → at < length ms → m ≡ get_or ms at m → is_input m.form ≡ false → inputs_of (drop at ms) ≡ inputs_of (drop from ms)
    → inputs_of (drop (at + 1) ms) ≡ inputs_of (drop from ms)
skip_turn ms from at m h e out k =
    sym (ap (λ (o : Option Part). cons_option o (inputs_of (drop (at + 1) ms))) (no_part m.code m.form out)) ∙ sym (ap inputs_of (step ms at m h e)) ∙ k

pub skip_end : (ms : List Signature) (from at : ℕ) → length ms ≤ at → inputs_of (drop at ms) ≡ inputs_of (drop from ms) → inputs_of (drop (length ms) ms) ≡ inputs_of (drop from ms)
skip_end ms from at h k = ap inputs_of (drop_all (length ms) ms (omega arith) ∙ sym (drop_all at ms h)) ∙ k

pub stops_here : (ms : List Signature) (at : ℕ) (m : Signature) → m ≡ get_or ms at m → is_input m.form ≡ true → NoneSkipped ms at
unfolding NoneSkipped
stops_here ms at m e is s there = ap (λ (x : Signature). is_input x.form) (sym (e ∙ get_or_from_slice_get ms at s m there)) ∙ is

pub stops_behind : (ms : List Signature) → NoneSkipped ms (length ms)
unfolding NoneSkipped
stops_behind ms s there = let none : Some s ≡ None = sym there ∙ slice_get_past ms (length ms) (omega arith) in cc

-- ---- what stands at a place

-- a typed one
pub record Front (ms : List Signature) (at : ℕ) (t : Ty) : Type 0 where
  pub part : Part
  pub typed : part.ty ≡ Some t
  pub first : inputs_of (drop at ms) ≡ part ∷ inputs_of (drop (suc at) ms)

pub front : (ms : List Signature) (at : ℕ) (t : Ty) → type_of_member (slice_get ms at) ≡ Some t → Front ms at t
front [] at t e = cc
front (s ∷ ms) zero t e =
    let p = typed_part s.code s.form t e in
    record { part = p.0; typed = p.2; first = ap (λ (o : Option Part). cons_option o (inputs_of ms)) p.1 }
front (s ∷ ms) (suc at) t e = let f = front ms at t e in record { part = f.part; typed = f.typed; first = f.first }

untyped : (table : Table) (p : Part) (ps : List Part) (v : Value) (vs : List Value) → p.ty ≡ None → FieldsHaveValue table (p ∷ ps) (v ∷ vs) → ⊥
untyped table p ps v vs e (FieldsHaveValue.more_fields {t = t} is h hs) = let none : Some t ≡ None = sym is ∙ e in cc

-- none that is typed: no value can be in it
pub none_typed : (table : Table) (ms : List Signature) (at : ℕ) (v : Value) (vs : List Value) → NoneSkipped ms at → type_of_member (slice_get ms at) ≡ None
    → FieldsHaveValue table (inputs_of (drop at ms)) (v ∷ vs) → ⊥
unfolding NoneSkipped
none_typed table [] zero v vs stops e h = elim h [ ]
none_typed table [] (suc at) v vs stops e h = elim h [ ]
none_typed table (s ∷ ms) zero v vs stops e h =
    let p = some_part s.code s.form (stops s refl) in
    untyped table p.0 (inputs_of ms) v vs (p.2 ∙ e) (subst (λ (o : Option Part). FieldsHaveValue table (cons_option o (inputs_of ms)) (v ∷ vs)) p.1 h)
none_typed table (s ∷ ms) (suc at) v vs stops e h = none_typed table ms at v vs stops e h

none_behind : (ms : List Signature) (at : ℕ) → NoneSkipped ms at → inputs_of (drop at ms) ≡ [] → length ms ≤ at
unfolding NoneSkipped
none_behind [] at stops e = omega arith
none_behind (s ∷ ms) zero stops e =
    let p = some_part s.code s.form (stops s refl) in
    let none : p.0 ∷ inputs_of ms ≡ [] = sym (ap (λ (o : Option Part). cons_option o (inputs_of ms)) p.1) ∙ e in
    absurd (cc none)
none_behind (s ∷ ms) (suc at) stops e = omega (arith, none_behind ms at stops e)

pub none_is : (ms : List Signature) (at from : ℕ) → inputs_of (drop at ms) ≡ inputs_of (drop from ms) → NoneSkipped ms at → (length ms ≤ at) ↔ (inputs_of (drop from ms) ≡ [])
none_is ms at from same stops = (λ h. sym same ∙ ap inputs_of (drop_all at ms h), λ e. none_behind ms at stops (same ∙ e))
