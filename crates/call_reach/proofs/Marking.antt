-- What setting marks does to the marks and to what is still to be followed.
use Rattle.std.proofs.Common.{◌≡◌, ◌⊎◌, ℕ, zero, suc, ◌+◌, ◌<◌, Bool, true, false, cond, List, [], ◌∷◌, ◌++◌, length, slice_set, refl, ap, subst, ◌∙◌, arith, inl, inr}
use Rattle.std.proofs.lemmas.List.{length-set, length_push}
use Rattle.call_reach.specs.Reaching.{is_marked}
use Rattle.call_reach.specs.Visits.{is_open, marks_with, work_with, visit_marks, visit_work}
use Rattle.call_reach.proofs.Members.{In, in_left, in_right, in_either}

-- how many are not marked
abbrev pub unmarked : List Bool → ℕ
unmarked [] = 0
unmarked (true ∷ marks) = unmarked marks
unmarked (false ∷ marks) = suc (unmarked marks)

-- ---- one mark

set_same : (marks : List Bool) (c : ℕ) → is_open marks c ≡ true → is_marked (slice_set marks c true) c ≡ true
set_same [] c e = cc
set_same (b ∷ marks) zero e = refl
set_same (b ∷ marks) (suc c) e = set_same marks c e

set_grows : (marks : List Bool) (c i : ℕ) → is_marked marks i ≡ true → is_marked (slice_set marks c true) i ≡ true
set_grows [] c i e = e
set_grows (b ∷ marks) zero zero e = refl
set_grows (b ∷ marks) zero (suc i) e = e
set_grows (b ∷ marks) (suc c) zero e = e
set_grows (b ∷ marks) (suc c) (suc i) e = set_grows marks c i e

set_new : (marks : List Bool) (c i : ℕ) → is_marked (slice_set marks c true) i ≡ true → (is_marked marks i ≡ true) ⊎ (c ≡ i)
set_new [] c i e = cc
set_new (b ∷ marks) zero zero e = inr refl
set_new (b ∷ marks) zero (suc i) e = inl e
set_new (b ∷ marks) (suc c) zero e = inl e
set_new (b ∷ marks) (suc c) (suc i) e = elim (set_new marks c i e) [ inl a ↦ inl a | inr b ↦ inr (ap suc b) ]

set_fewer : (marks : List Bool) (c : ℕ) → is_open marks c ≡ true → suc (unmarked (slice_set marks c true)) ≡ unmarked marks
set_fewer [] c e = cc
set_fewer (true ∷ marks) zero e = cc
set_fewer (false ∷ marks) zero e = refl
set_fewer (true ∷ marks) (suc c) e = set_fewer marks c e
set_fewer (false ∷ marks) (suc c) e = ap suc (set_fewer marks c e)

not_open : (marks : List Bool) (c : ℕ) → is_open marks c ≡ false → c < length marks → is_marked marks c ≡ true
not_open [] c e lt = absurd (omega arith)
not_open (true ∷ marks) zero e lt = refl
not_open (false ∷ marks) zero e lt = cc
not_open (b ∷ marks) (suc c) e lt = not_open marks c e (omega arith)

pub marked_within : (marks : List Bool) (i : ℕ) → is_marked marks i ≡ true → i < length marks
marked_within [] i e = cc
marked_within (b ∷ marks) zero e = omega arith
marked_within (b ∷ marks) (suc i) e = let h = marked_within marks i e in omega arith

-- ---- several marks

-- what setting the marks of these numbers does
pub record Visit (marks : List Bool) (work cs : List ℕ) (marks' : List Bool) (work' : List ℕ) : Type 0 where
  pub whole : length marks' ≡ length marks
  pub grows : (i : ℕ) → is_marked marks i ≡ true → is_marked marks' i ≡ true
  pub new : (i : ℕ) → is_marked marks' i ≡ true → (is_marked marks i ≡ true) ⊎ (In i cs × In i work')
  pub stays : (i : ℕ) → In i work → In i work'
  pub listed : (i : ℕ) → In i work' → In i work ⊎ (is_marked marks' i ≡ true)
  pub took : (i : ℕ) → In i cs → i < length marks → is_marked marks' i ≡ true
  pub count : unmarked marks' + length work' ≡ unmarked marks + length work

one_in : (x c : ℕ) (P : ℕ → Type 0) → P c → In x (c ∷ []) → P x
one_in x c P p (inl e) = subst P e p
one_in x c P p (inr h) = absurd h

taken : (marks : List Bool) (work : List ℕ) (c : ℕ) → is_open marks c ≡ true → Visit marks work (c ∷ []) (slice_set marks c true) (work ++ c ∷ [])
taken marks work c e = record {
  whole = length-set marks c true;
  grows = λ i h. set_grows marks c i h;
  new = λ i h. elim (set_new marks c i h) [ inl a ↦ inl a | inr b ↦ inr (inl b, in_right i work (c ∷ []) (inl b)) ];
  stays = λ i h. in_left i work (c ∷ []) h;
  listed = λ i h. elim (in_either i work (c ∷ []) h) [ inl a ↦ inl a | inr b ↦ inr (one_in i c (λ (v : ℕ). is_marked (slice_set marks c true) v ≡ true) (set_same marks c e) b) ];
  took = λ i h lt. one_in i c (λ (v : ℕ). is_marked (slice_set marks c true) v ≡ true) (set_same marks c e) h;
  count = let f = set_fewer marks c e in let l = length_push work c in omega arith;
}

passed : (marks : List Bool) (work : List ℕ) (c : ℕ) → is_open marks c ≡ false → Visit marks work (c ∷ []) marks work
passed marks work c e = record {
  whole = refl;
  grows = λ i h. h;
  new = λ i h. inl h;
  stays = λ i h. h;
  listed = λ i h. inl h;
  took = λ i h. one_in i c (λ (v : ℕ). v < length marks → is_marked marks v ≡ true) (not_open marks c e) h;
  count = refl;
}

one : (marks : List Bool) (work : List ℕ) (c : ℕ) (b : Bool) → is_open marks c ≡ b → Visit marks work (c ∷ []) (cond b (slice_set marks c true) marks) (cond b (work ++ c ∷ []) work)
one marks work c true e = taken marks work c e
one marks work c false e = passed marks work c e

joined : (marks m m' : List Bool) (work w w' cs : List ℕ) (c : ℕ) → Visit marks work (c ∷ []) m w → Visit m w cs m' w' → Visit marks work (c ∷ cs) m' w'
joined marks m m' work w w' cs c a b = record {
  whole = b.whole ∙ a.whole;
  grows = λ i h. b.grows i (a.grows i h);
  new = λ i h. new_in i (b.new i h);
  stays = λ i h. b.stays i (a.stays i h);
  listed = λ i h. listed_in i (b.listed i h);
  took = λ i h lt. took_in i lt h;
  count = b.count ∙ a.count;
}
  where
    new_in : (i : ℕ) → (is_marked m i ≡ true) ⊎ (In i cs × In i w') → (is_marked marks i ≡ true) ⊎ (In i (c ∷ cs) × In i w')
    new_in i (inl h) = elim (a.new i h) [ inl k ↦ inl k | inr k ↦ inr (in_left i (c ∷ []) cs k.0, b.stays i k.1) ]
    new_in i (inr h) = inr (inr h.0, h.1)

    listed_in : (i : ℕ) → In i w ⊎ (is_marked m' i ≡ true) → In i work ⊎ (is_marked m' i ≡ true)
    listed_in i (inl h) = elim (a.listed i h) [ inl k ↦ inl k | inr k ↦ inr (b.grows i k) ]
    listed_in i (inr h) = inr h

    took_in : (i : ℕ) → i < length marks → In i (c ∷ cs) → is_marked m' i ≡ true
    took_in i lt (inl e) = b.grows i (a.took i (inl e) lt)
    took_in i lt (inr h) = let e = a.whole in b.took i h (omega arith)

pub visits : (marks : List Bool) (work cs : List ℕ) → Visit marks work cs (visit_marks marks cs) (visit_work marks work cs)
visits marks work [] = record {
  whole = refl;
  grows = λ i h. h;
  new = λ i h. inl h;
  stays = λ i h. h;
  listed = λ i h. inl h;
  took = λ i h lt. absurd h;
  count = refl;
}
visits marks work (c ∷ cs) =
    joined marks (marks_with marks c) (visit_marks (marks_with marks c) cs) work (work_with marks work c) (visit_work (marks_with marks c) (work_with marks work c) cs) cs c
    (one marks work c (is_open marks c) refl) (visits (marks_with marks c) (work_with marks work c) cs)
