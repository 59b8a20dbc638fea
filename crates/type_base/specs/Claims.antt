-- What a search finds, and what a rule relates: the steps of both, and that they agree.
use Rattle.std.specs.Prelude.{◌≡◌, Bool, true, false, not, is_some, Option, Some, None, ◌↔◌, ◌⊎◌, if◌then◌else◌, ◌||◌}
use Rattle.std.proofs.Common.{refl, sym, subst, inl, inr, ◌∙◌}

-- the search finds x exactly where the rule relates x, so the rule relates one thing at most
abbrev pub Reads : {A : Type 0} → Option A → (A → Type 0) → Type 0
Reads {A = A} o P = (x : A) → (o ≡ Some x) ↔ P x

unfoldable pub and_then : {A B : Type 0} → Option A → (A → Option B) → Option B
and_then None f = None
and_then (Some x) f = f x

-- some x, and then y
unfoldable pub Then : {A B : Type 0} → (A → Type 0) → (A → B → Type 0) → B → Type 0
Then {A = A} P Q y = (x : A) × P x × Q x y

abbrev pub when : {A : Type 0} → Bool → Option A → Option A
when b o = if b then o else None

pub some_is : {A : Type 0} (x y : A) → ◌≡◌ {A = Option A} (Some x) (Some y) → x ≡ y
some_is x y e = cc

pub reads_give : {A : Type 0} (y : A) → Reads (Some y) (λ x. x ≡ y)
reads_give y x = (λ e. let h : y ≡ x = some_is y x e in cc, λ e. let h : x ≡ y = e in cc)

pub reads_none : {A : Type 0} → Reads {A = A} None (λ x. ⊥)
reads_none x = (λ e. cc, λ e. absurd e)

pub reads_then : {A B : Type 0} {o : Option A} {P : A → Type 0} {f : A → Option B} {Q : A → B → Type 0}
    → Reads o P → ((x : A) → Reads (f x) (Q x)) → Reads (and_then o f) (Then P Q)
unfolding and_then Then
reads_then {o = None} p q y = (λ e. cc, λ w. let h = (p w.0).1 w.1 in cc)
reads_then {o = Some a} {Q = Q} p q y = (λ e. (a, (p a).0 refl, (q a y).0 e), λ w. let h : a ≡ w.0 = some_is a w.0 ((p w.0).1 w.1) in (q a y).1 (subst (λ v. Q v y) (sym h) w.2))

pub reads_when : {A : Type 0} {b : Bool} {B : Type 0} {o : Option A} {P : A → Type 0} → ((b ≡ true) ↔ B) → Reads o P → Reads (when b o) (λ x. B × P x)
reads_when {b = true} h p x = (λ e. (h.0 refl, (p x).0 e), λ w. (p x).1 w.1)
reads_when {b = false} h p x = (λ e. cc, λ w. let k = h.1 w.0 in cc)

unfoldable pub or_else : {A : Type 0} → Option A → Option A → Option A
or_else (Some x) p = Some x
or_else None p = p

-- P, and Q only where P relates nothing
unfoldable pub Else : {A : Type 0} → (A → Type 0) → (A → Type 0) → A → Type 0
Else {A = A} P Q x = P x ⊎ (((y : A) → P y → ⊥) × Q x)

pub reads_is : {A : Type 0} (o : Option A) → Reads o (λ x. o ≡ Some x)
reads_is o x = (λ e. e, λ e. e)

pub reads_else : {A : Type 0} {o p : Option A} {P Q : A → Type 0} → Reads o P → Reads p Q → Reads (or_else o p) (Else P Q)
unfolding or_else Else
reads_else {o = Some a} h k x = (λ e. inl ((h x).0 e), λ w. elim w [ inl p ↦ (h x).1 p | inr q ↦ absurd (q.0 a ((h a).0 refl)) ])
reads_else {o = None} {P = P} h k x = (λ e. inr (λ y p. let n = (h y).1 p in cc, (k x).0 e), λ w. elim w [ inl p ↦ let n = (h x).1 p in cc | inr q ↦ (k x).1 q.1 ])

pub reads_cases : {A : Type 0} {b : Bool} {B : Type 0} {o p : Option A} {P Q : A → Type 0} → ((b ≡ true) ↔ B) → Reads o P → Reads p Q
    → Reads (if b then o else p) (λ x. (B × P x) ⊎ ((B → ⊥) × Q x))
reads_cases {b = true} d h k x = (λ e. inl (d.0 refl, (h x).0 e), λ w. elim w [ inl p ↦ (h x).1 p.1 | inr q ↦ absurd (q.0 (d.0 refl)) ])
reads_cases {b = false} d h k x = (λ e. inr (λ p. let n = d.1 p in cc, (k x).0 e), λ w. elim w [ inl p ↦ let n = d.1 p.0 in cc | inr q ↦ (k x).1 q.1 ])

pub bool_is : {b : Bool} → (b ≡ true) ↔ (b ≡ true)
bool_is = (λ e. e, λ e. e)

pub not_decides : {b : Bool} {B : Type 0} → ((b ≡ true) ↔ B) → (not b ≡ true) ↔ (B → ⊥)
not_decides {b = true} d = (λ e. cc, λ n. absurd (n (d.0 refl)))
not_decides {b = false} d = (λ e p. let n = d.1 p in cc, λ n. refl)

pub none_decides : {A : Type 0} {o : Option A} {P : A → Type 0} → Reads o P → (not (is_some o) ≡ true) ↔ ((x : A) → P x → ⊥)
none_decides {o = None} h = (λ e x p. let n = (h x).1 p in cc, λ n. refl)
none_decides {o = Some a} h = (λ e. cc, λ n. absurd (n a ((h a).0 refl)))

-- what a search reads, in other words
pub reads_same : {A : Type 0} {o : Option A} {P Q : A → Type 0} → Reads o P → ((x : A) → P x ↔ Q x) → Reads o Q
reads_same h k x = (λ e. (k x).0 ((h x).0 e), λ q. (h x).1 ((k x).1 q))

-- what a search reads is one thing at most
pub reads_one : {A : Type 0} {o : Option A} {P : A → Type 0} → Reads o P → (x y : A) → P x → P y → x ≡ y
reads_one h x y p q = let e = (h x).1 p in let f = (h y).1 q in some_is x y (sym e ∙ f)

pair_some : {A B : Type 0} (a : A) (o : Option B) (P : A → Type 0) (Q : A → B → Type 0) → P a → Reads o (Q a) → (r : A × B) → (P r.0 → a ≡ r.0)
    → (and_then {B = A × B} o (λ y. Some (a, y)) ≡ Some r) ↔ (P r.0 × Q r.0 r.1)
unfolding and_then
pair_some a None P Q p q r same = (λ e. cc, λ w. let h = (q r.1).1 (subst (λ v. Q v r.1) (sym (same w.0)) w.1) in cc)
pair_some {A = A} {B = B} a (Some b) P Q p q r same = (
  λ e. let h = some_is {A = A × B} (a, b) r e in (subst (λ (v : A × B). P v.0) h p, subst (λ (v : A × B). Q v.0 v.1) h ((q b).0 refl)),
  λ w. let e = same w.0 in let k : b ≡ r.1 = some_is b r.1 ((q r.1).1 (subst (λ v. Q v r.1) (sym e) w.1)) in λ i. Some (e i, k i),
)

-- one part, and then another that may depend on it
pub reads_pair : {A B : Type 0} {o : Option A} {P : A → Type 0} {f : A → Option B} {Q : A → B → Type 0}
    → Reads o P → ((x : A) → Reads (f x) (Q x)) → Reads (and_then o (λ x. and_then {B = A × B} (f x) (λ y. Some (x, y)))) (λ r. P r.0 × Q r.0 r.1)
unfolding and_then
reads_pair {o = None} p q r = (λ e. cc, λ w. let h = (p r.0).1 w.0 in cc)
reads_pair {o = Some a} {P = P} {f = f} {Q = Q} p q r = pair_some a (f a) P Q ((p a).0 refl) (q a) r (λ w. some_is a r.0 ((p r.0).1 w))

-- one of two
pub or_decides : {a b : Bool} {A B : Type 0} → ((a ≡ true) ↔ A) → ((b ≡ true) ↔ B) → ((a || b) ≡ true) ↔ (A ⊎ B)
or_decides {a = true} d e = (λ h. inl (d.0 refl), λ w. refl)
or_decides {a = false} d e = (λ h. inr (e.0 h), λ w. elim w [ inl p ↦ let n = d.1 p in cc | inr q ↦ e.1 q ])

-- where the first search finds something, what follows from it; else another search
unfoldable pub given : {A B : Type 0} → Option A → (A → Option B) → Option B → Option B
given None f g = g
given (Some x) f g = f x

unfoldable pub Given : {A B : Type 0} → (A → Type 0) → (A → B → Type 0) → (B → Type 0) → B → Type 0
Given {A = A} P R Q y = ((x : A) × P x × R x y) ⊎ (((x : A) → P x → ⊥) × Q y)

pub reads_given : {A B : Type 0} {o : Option A} {P : A → Type 0} {f : A → Option B} {R : A → B → Type 0} {g : Option B} {Q : B → Type 0}
    → Reads o P → ((x : A) → Reads (f x) (R x)) → Reads g Q → Reads (given o f g) (Given P R Q)
unfolding given Given
reads_given {o = None} p r q y = (λ e. inr (λ x h. let n = (p x).1 h in cc, (q y).0 e), λ w. elim w [ inl v ↦ let n = (p v.0).1 v.1 in cc | inr v ↦ (q y).1 v.1 ])
reads_given {o = Some a} {R = R} p r q y = (
  λ e. inl (a, (p a).0 refl, (r a y).0 e),
  λ w. elim w [ inl v ↦ let h : a ≡ v.0 = some_is a v.0 ((p v.0).1 v.1) in (r a y).1 (subst (λ u. R u y) (sym h) v.2) | inr v ↦ absurd (v.0 a ((p a).0 refl)) ],
)
