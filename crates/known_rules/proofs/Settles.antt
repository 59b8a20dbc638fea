-- After as many rounds as there are properties and keys without a written type, a round changes nothing.
use Rattle.std.proofs.Common.{◌≡◌, ℕ, zero, suc, ◌+◌, ◌<◌, ◌≤◌, ◌⊎◌, Bool, true, false, cond, List, [], ◌∷◌, Option, Some, None, length, slice_get, refl, sym, ap, subst, ◌∙◌, arith, inl, inr}
use Rattle.swift_core.specs.declared.ty.Ty.{Ty}
use Rattle.swift_core.specs.declared.table.Table.{Table}
use Rattle.swift_core.specs.declared.table.SignatureForm.{SignatureForm}
use Rattle.swift_core.specs.declared.table.SignatureForm.TheVariants as form
use Rattle.known_rules.specs.Known.{Open, changed_at, filled_form, filled, filled_declaration, first_type, filled_key, with_declarations, with_environment, typed_at, with_type, found, turn, forwards, backwards, next, rounds}
use Rattle.known_rules.specs.Blanks.{blank_form, blank_type, blank_signature, blank_key, if_some, blank_member, blank_at, is_blank}

-- a change either changes nothing, or takes a blank away; and it makes nothing blank
abbrev Takes : {X : Type 0} → (X → Bool) → (X → X) → Type 0
Takes {X = X} blank f = (x : X) → (f x ≡ x) ⊎ ((blank x ≡ true) × (blank (f x) ≡ false))

abbrev Keeps : {X : Type 0} → (X → Bool) → (X → X) → Type 0
Keeps {X = X} blank f = (x : X) → blank (f x) ≡ true → blank x ≡ true

form_takes : (t : Ty) (f : SignatureForm) → (filled_form f t ≡ f) ⊎ ((blank_form f ≡ true) × (blank_form (filled_form f t) ≡ false))
form_takes t (form.Stored n b None a) = inr (refl, refl)
form_takes t (form.Stored n b (Some u) a) = inl refl
form_takes t (form.State n None a) = inr (refl, refl)
form_takes t (form.State n (Some u) a) = inl refl
form_takes t (form.Static None) = inr (refl, refl)
form_takes t (form.Static (Some u)) = inl refl
form_takes t (form.Binding n o) = inl refl
form_takes t (form.Environment n) = inl refl
form_takes t (form.Case n) = inl refl
form_takes t (form.Computed o) = inl refl
form_takes t (form.Function ps o m) = inl refl
form_takes t form.BuilderProperty = inl refl
form_takes t (form.BuilderFunction ps) = inl refl
form_takes t form.Reduce = inl refl
form_takes t form.Unfit = inl refl

form_keeps : (t : Ty) (f : SignatureForm) → blank_form (filled_form f t) ≡ true → blank_form f ≡ true
form_keeps t (form.Stored n b None a) e = cc
form_keeps t (form.Stored n b (Some u) a) e = e
form_keeps t (form.State n None a) e = cc
form_keeps t (form.State n (Some u) a) e = e
form_keeps t (form.Static None) e = cc
form_keeps t (form.Static (Some u)) e = e
form_keeps t (form.Binding n o) e = e
form_keeps t (form.Environment n) e = e
form_keeps t (form.Case n) e = e
form_keeps t (form.Computed o) e = e
form_keeps t (form.Function ps o m) e = e
form_keeps t form.BuilderProperty e = e
form_keeps t (form.BuilderFunction ps) e = e
form_keeps t form.Reduce e = e
form_keeps t form.Unfit e = e

signature_takes : (t : Ty) → Takes blank_signature (filled t)
signature_takes t s = elim (form_takes t s.form) [ inl e ↦ inl (λ i. record { name = s.name; code = s.code; form = e i }) | inr w ↦ inr w ]

signature_keeps : (t : Ty) → Keeps blank_signature (filled t)
signature_keeps t s e = form_keeps t s.form e

type_takes : (t : Ty) (o : Option Ty) → (first_type o t ≡ o) ⊎ ((blank_type o ≡ true) × (blank_type (first_type o t) ≡ false))
type_takes t None = inr (refl, refl)
type_takes t (Some u) = inl refl

key_takes : (t : Ty) → Takes blank_key (filled_key t)
key_takes t k = elim (type_takes t k.ty) [ inl e ↦ inl (λ i. record { name = k.name; ty = e i; default = k.default }) | inr w ↦ inr w ]

type_keeps : (t : Ty) (o : Option Ty) → blank_type (first_type o t) ≡ true → blank_type o ≡ true
type_keeps t None e = cc
type_keeps t (Some u) e = e

key_keeps : (t : Ty) → Keeps blank_key (filled_key t)
key_keeps t k e = type_keeps t k.ty e

-- ---- at a place of a list

place_takes : {X : Type 0} (blank : X → Bool) (f : X → X) → Takes blank f → (xs : List X) (i : ℕ)
    → (changed_at f xs i ≡ xs) ⊎ ((if_some blank (slice_get xs i) ≡ true) × (if_some blank (slice_get (changed_at f xs i) i) ≡ false))
place_takes blank f h [] i = inl refl
place_takes blank f h (x ∷ xs) zero = elim (h x) [ inl e ↦ inl (ap (λ y. y ∷ xs) e) | inr w ↦ inr w ]
place_takes blank f h (x ∷ xs) (suc i) = elim (place_takes blank f h xs i) [ inl e ↦ inl (ap (λ ys. x ∷ ys) e) | inr w ↦ inr w ]

place_keeps : {X : Type 0} (blank : X → Bool) (f : X → X) → Keeps blank f → (xs : List X) (i j : ℕ)
    → if_some blank (slice_get (changed_at f xs i) j) ≡ true → if_some blank (slice_get xs j) ≡ true
place_keeps blank f h [] i j e = e
place_keeps blank f h (x ∷ xs) zero zero e = h x e
place_keeps blank f h (x ∷ xs) zero (suc j) e = e
place_keeps blank f h (x ∷ xs) (suc i) zero e = e
place_keeps blank f h (x ∷ xs) (suc i) (suc j) e = place_keeps blank f h xs i j e

declaration_takes : (t : Ty) (at : ℕ) → Takes (blank_member at) (filled_declaration at t)
declaration_takes t at d = elim (place_takes blank_signature (filled t) (signature_takes t) d.members at) [
  | inl e ↦ inl (λ i. record { name = d.name; kind = d.kind; is_main = d.is_main; members = e i; names = d.names })
  | inr w ↦ inr w
]

declaration_keeps : (t : Ty) (at to : ℕ) → Keeps (blank_member to) (filled_declaration at t)
declaration_keeps t at to d e = place_keeps blank_signature (filled t) (signature_keeps t) d.members at to e

-- ---- in a table

typed_takes : (table : Table) (d : Option ℕ) (at : ℕ) (t : Ty) → (typed_at table d at t ≡ table) ⊎ ((blank_at table d at ≡ true) × (blank_at (typed_at table d at t) d at ≡ false))
typed_takes table None at t = elim (place_takes blank_key (filled_key t) (key_takes t) table.environment at) [ inl e ↦ inl (ap (with_environment table) e) | inr w ↦ inr w ]
typed_takes table (Some d) at t = elim (place_takes (blank_member at) (filled_declaration at t) (declaration_takes t at) table.declarations d) [ inl e ↦ inl (ap (with_declarations table) e) | inr w ↦ inr w ]

typed_keeps : (table : Table) (d e : Option ℕ) (at to : ℕ) (t : Ty) → blank_at (typed_at table d at t) e to ≡ true → blank_at table e to ≡ true
typed_keeps table None None at to t h = place_keeps blank_key (filled_key t) (key_keeps t) table.environment at to h
typed_keeps table None (Some e) at to t h = h
typed_keeps table (Some d) None at to t h = h
typed_keeps table (Some d) (Some e) at to t h = place_keeps (blank_member to) (filled_declaration at t) (declaration_keeps t at to) table.declarations d e h

with_takes : (table : Table) (o : Open) (t : Option Ty) → (with_type table o t ≡ table) ⊎ ((is_blank table o ≡ true) × (is_blank (with_type table o t) o ≡ false))
with_takes table o None = inl refl
with_takes table o (Some t) = typed_takes table o.declaration o.at t

with_keeps : (table : Table) (o p : Open) (t : Option Ty) → is_blank (with_type table o t) p ≡ true → is_blank table p ≡ true
with_keeps table o p None e = e
with_keeps table o p (Some t) e = typed_keeps table o.declaration p.declaration o.at p.at t e

turn_takes : (table : Table) (o : Open) → (turn table o ≡ table) ⊎ ((is_blank table o ≡ true) × (is_blank (turn table o) o ≡ false))
unfolding turn
turn_takes table o = with_takes table o (found table o)

turn_keeps : (table : Table) (o p : Open) → is_blank (turn table o) p ≡ true → is_blank table p ≡ true
unfolding turn
turn_keeps table o p e = with_keeps table o p (found table o) e

-- ---- how many are blank

abbrev blanks : Table → List Open → ℕ
blanks table [] = 0
blanks table (o ∷ os) = cond (is_blank table o) 1 0 + blanks table os

blanks_few : (table : Table) (os : List Open) → blanks table os ≤ length os
blanks_few table [] = omega arith
blanks_few table (o ∷ os) = let h = blanks_few table os in by (is_blank table o) h
  where
    by : (b : Bool) → blanks table os ≤ length os → cond b 1 0 + blanks table os ≤ suc (length os)
    by true h = omega arith
    by false h = omega arith

one_le : (b c : Bool) → (b ≡ true → c ≡ true) → cond b 1 0 ≤ cond c 1 0
one_le true c h = let e = h refl in subst (λ x. 1 ≤ cond x 1 0) (sym e) (omega arith)
one_le false true h = omega arith
one_le false false h = omega arith

-- the second table has no blank that the first has not
abbrev Below : Table → Table → Type 0
Below now was = (p : Open) → is_blank now p ≡ true → is_blank was p ≡ true

blanks_below : (now was : Table) → Below now was → (os : List Open) → blanks now os ≤ blanks was os
blanks_below now was h [] = omega arith
blanks_below now was h (o ∷ os) = let a = one_le (is_blank now o) (is_blank was o) (h o) in let b = blanks_below now was h os in omega arith

-- one of the list is a blank of the first and not of the second
data Gone (now was : Table) : List Open → Type 0 where
  here : {o : Open} {os : List Open} → is_blank was o ≡ true → is_blank now o ≡ false → Gone now was (o ∷ os)
  there : {o : Open} {os : List Open} → Gone now was os → Gone now was (o ∷ os)

blanks_gone : (now was : Table) → Below now was → (os : List Open) → Gone now was os → blanks now os < blanks was os
blanks_gone now was h [] g = elim g [ ]
blanks_gone now was h (o ∷ os) (here e f) =
    let b = blanks_below now was h os in
    let x : cond {A = ℕ} (is_blank was o) 1 0 ≡ 1 = ap (λ (c : Bool). cond {A = ℕ} c 1 0) e in
    let y : cond {A = ℕ} (is_blank now o) 1 0 ≡ 0 = ap (λ (c : Bool). cond {A = ℕ} c 1 0) f in
    omega arith
blanks_gone now was h (o ∷ os) (there g) =
    let a = one_le (is_blank now o) (is_blank was o) (h o) in
    let b = blanks_gone now was h os g in
    omega arith

gone_more : (now mid was : Table) → Below mid was → (os : List Open) → Gone now mid os → Gone now was os
gone_more now mid was h [] g = elim g [ ]
gone_more now mid was h (o ∷ os) (here e f) = here (h o e) f
gone_more now mid was h (o ∷ os) (there g) = there (gone_more now mid was h os g)

forwards_keeps : (table : Table) (os : List Open) → Below (forwards table os) table
forwards_keeps table [] p e = e
forwards_keeps table (o ∷ os) p e = turn_keeps table o p (forwards_keeps (turn table o) os p e)

backwards_keeps : (table : Table) (os : List Open) → Below (backwards table os) table
backwards_keeps table [] p e = e
backwards_keeps table (o ∷ os) p e = backwards_keeps table os p (turn_keeps (backwards table os) o p e)

forwards_takes : (table : Table) (os : List Open) → (forwards table os ≡ table) ⊎ Gone (forwards table os) table os
forwards_takes table [] = inl refl
forwards_takes table (o ∷ os) = by (turn_takes table o) (forwards_takes (turn table o) os)
  where
    by : (turn table o ≡ table) ⊎ ((is_blank table o ≡ true) × (is_blank (turn table o) o ≡ false))
        → (forwards (turn table o) os ≡ turn table o) ⊎ Gone (forwards (turn table o) os) (turn table o) os
        → (forwards (turn table o) os ≡ table) ⊎ Gone (forwards (turn table o) os) table (o ∷ os)
    by (inl e) (inl f) = inl (f ∙ e)
    by (inr w) (inl f) = inr (here w.0 (ap (λ t. is_blank t o) f ∙ w.1))
    by a (inr g) = inr (there (gone_more (forwards (turn table o) os) (turn table o) table (turn_keeps table o) os g))

backwards_takes : (table : Table) (os : List Open) → (backwards table os ≡ table) ⊎ Gone (backwards table os) table os
backwards_takes table [] = inl refl
backwards_takes table (o ∷ os) = by (backwards_takes table os) (turn_takes (backwards table os) o)
  where
    by : (backwards table os ≡ table) ⊎ Gone (backwards table os) table os
        → (turn (backwards table os) o ≡ backwards table os) ⊎ ((is_blank (backwards table os) o ≡ true) × (is_blank (turn (backwards table os) o) o ≡ false))
        → (turn (backwards table os) o ≡ table) ⊎ Gone (turn (backwards table os) o) table (o ∷ os)
    by (inl e) (inl f) = inl (f ∙ e)
    by (inr g) (inl f) = inr (there (subst (λ (t : Table). Gone t table os) (sym f) g))
    by a (inr w) = inr (here (backwards_keeps table os o w.0) w.1)

next_takes : (os : List Open) (table : Table) → (next os table ≡ table) ⊎ ((Below (next os table) table) × Gone (next os table) table os)
unfolding next
next_takes os table = by (forwards_takes table os) (backwards_takes (forwards table os) os)
  where
    below : Below (backwards (forwards table os) os) table
    below p e = forwards_keeps table os p (backwards_keeps (forwards table os) os p e)

    by : (forwards table os ≡ table) ⊎ Gone (forwards table os) table os
        → (backwards (forwards table os) os ≡ forwards table os) ⊎ Gone (backwards (forwards table os) os) (forwards table os) os
        → (backwards (forwards table os) os ≡ table) ⊎ ((Below (backwards (forwards table os) os) table) × Gone (backwards (forwards table os) os) table os)
    by (inl e) (inl f) = inl (f ∙ e)
    by (inr g) (inl f) = inr (below, subst (λ (t : Table). Gone t table os) (sym f) g)
    by a (inr g) = inr (below, gone_more (backwards (forwards table os) os) (forwards table os) table (forwards_keeps table os) os g)

-- after n rounds, either a round changes nothing, or n blanks at least are gone
after : (os : List Open) (table : Table) (n : ℕ) → (next os (rounds os n table) ≡ rounds os n table) ⊎ (blanks (rounds os n table) os + n ≤ length os)
after os table zero = let h = blanks_few table os in inr (omega arith)
after os table (suc n) = by (after os table n) (next_takes os (rounds os n table))
  where
    by : (next os (rounds os n table) ≡ rounds os n table) ⊎ (blanks (rounds os n table) os + n ≤ length os)
        → (next os (rounds os n table) ≡ rounds os n table) ⊎ ((Below (next os (rounds os n table)) (rounds os n table)) × Gone (next os (rounds os n table)) (rounds os n table) os)
        → (next os (next os (rounds os n table)) ≡ next os (rounds os n table)) ⊎ (blanks (next os (rounds os n table)) os + suc n ≤ length os)
    by (inl e) m = inl (ap (next os) e)
    by (inr le) (inl e) = inl (ap (next os) e)
    by (inr le) (inr w) = let lt = blanks_gone (next os (rounds os n table)) (rounds os n table) w.0 os w.1 in inr (omega arith)

-- so after as many rounds as there are properties and keys a round changes nothing
pub settles : (os : List Open) (table : Table) → next os (rounds os (length os) table) ≡ rounds os (length os) table
settles os table = by (after os table (length os)) (next_takes os (rounds os (length os) table))
  where
    by : (next os (rounds os (length os) table) ≡ rounds os (length os) table) ⊎ (blanks (rounds os (length os) table) os + length os ≤ length os)
        → (next os (rounds os (length os) table) ≡ rounds os (length os) table) ⊎ ((Below (next os (rounds os (length os) table)) (rounds os (length os) table)) × Gone (next os (rounds os (length os) table)) (rounds os (length os) table) os)
        → next os (rounds os (length os) table) ≡ rounds os (length os) table
    by (inl e) m = e
    by (inr le) (inl e) = e
    by (inr le) (inr w) = let lt = blanks_gone (next os (rounds os (length os) table)) (rounds os (length os) table) w.0 os w.1 in absurd (omega arith)
