-- The run that the code finds is the longest word.
use Rattle.std.proofs.Common.{◌≡◌, ℕ, zero, suc, ◌<◌, ◌≤◌, Bool, true, false, cond, ◌&&◌, ◌⊎◌, inl, inr, List, [], ◌∷◌, length, take, refl, sym, subst, arith}
use Rattle.std.specs.Prelude.{nat_eq}
use Rattle.std.specs.List.{list_all}
use Rattle.std.proofs.lemmas.Bool.Decides.{eqb_tells}
use Rattle.swift_lex.specs.Spellings.{run, is_digit}
use Rattle.swift_lex.specs.Runs.{over, digits_more, digits_len}
use Rattle.swift_lex.specs.Words.{are_more_digits, are_digits, longest_up_to, longest}

pub either_bool : (t : Bool) → (t ≡ true) ⊎ (t ≡ false)
either_bool true = inl refl
either_bool false = inr refl

pub and_false : (a : Bool) → (a && false) ≡ false
and_false true = refl
and_false false = refl

-- m is the longest: the front of m bytes passes, and no longer one does
longest_up_to-is : (test : List ℕ → Bool) (bs : List ℕ) (m : ℕ) → (0 < m → test (take m bs) ≡ true) → ((n : ℕ) → m < n → n ≤ length bs → test (take n bs) ≡ false)
    → (k : ℕ) → m ≤ k → k ≤ length bs → longest_up_to test bs k ≡ m
longest_up_to-is test bs m some none zero le within = omega arith
longest_up_to-is test bs m some none (suc k) le within =
    elim (eqb_tells m (suc k)) [
      | inl w ↦
          let pos : 0 < m = omega arith in
          let on : test (take (suc k) bs) ≡ true = subst (λ (v : ℕ). test (take v bs) ≡ true) w.1 (some pos) in
          rw on (sym w.1)
      | inr w ↦
          let ne : m ≡ suc k → ⊥ = w.1 in
          let off : test (take (suc k) bs) ≡ false = none (suc k) (omega arith) within in
          rw off (longest_up_to-is test bs m some none k (omega arith) (omega arith))
    ]

pub longest-is : (test : List ℕ → Bool) (bs : List ℕ) (m : ℕ) → m ≤ length bs → (0 < m → test (take m bs) ≡ true) → ((n : ℕ) → m < n → n ≤ length bs → test (take n bs) ≡ false) → longest test bs ≡ m
unfolding longest
longest-is test bs m within some none = longest_up_to-is test bs m some none (length bs) within (omega arith)

-- ---- runs

run_taken_by : (p : ℕ → Bool) (b : ℕ) (bs : List ℕ) (t : Bool) → p b ≡ t → list_all p (take (run p bs) bs) ≡ true → list_all p (take (cond t (suc (run p bs)) 0) (b ∷ bs)) ≡ true
run_taken_by p b bs true e h = rw (e, h) refl
run_taken_by p b bs false e h = refl

pub run_taken : (p : ℕ → Bool) (bs : List ℕ) → list_all p (take (run p bs) bs) ≡ true
run_taken p [] = refl
run_taken p (b ∷ bs) = run_taken_by p b bs (p b) refl (run_taken p bs)

run_longer_by : (p : ℕ → Bool) (b : ℕ) (bs : List ℕ) (t : Bool) (m : ℕ) → p b ≡ t → cond t (suc (run p bs)) 0 < suc m → (run p bs < m → list_all p (take m bs) ≡ false) → list_all p (b ∷ take m bs) ≡ false
run_longer_by p b bs true m e lt h = let r = h (omega arith) in rw (e, r) refl
run_longer_by p b bs false m e lt h = rw e refl

pub run_longer : (p : ℕ → Bool) (bs : List ℕ) (n : ℕ) → run p bs < n → n ≤ length bs → list_all p (take n bs) ≡ false
run_longer p [] n lt le = absurd (omega arith)
run_longer p (b ∷ bs) zero lt le = absurd (omega arith)
run_longer p (b ∷ bs) (suc m) lt le = run_longer_by p b bs (p b) m refl lt (λ h. run_longer p bs m h (omega arith))

-- ---- digits

more_taken_by : (base b : ℕ) (bs : List ℕ) (d e : Bool) (r : ℕ) → is_digit base b ≡ d → nat_eq b 95 ≡ e → r ≤ length bs → are_more_digits base (take r bs) ≡ true
    → are_more_digits base (take (cond d (suc r) (cond e (over r) 0)) (b ∷ bs)) ≡ true
unfolding are_more_digits
more_taken_by base b bs true e r p q le h = rw (p, h) refl
more_taken_by base b bs false false r p q le h = refl
more_taken_by base b bs false true zero p q le h = refl
more_taken_by base b [] false true (suc r) p q le h = absurd (omega arith)
more_taken_by base b (c ∷ cs) false true (suc r) p q le h = rw (p, q) h

digits_within_by : (n m : ℕ) (d e : Bool) → n ≤ m → cond d (suc n) (cond e (over n) 0) ≤ suc m
digits_within_by n m true e h = omega arith
digits_within_by n m false false h = omega arith
digits_within_by zero m false true h = omega arith
digits_within_by (suc n) m false true h = omega arith

pub more_within : (base : ℕ) (bs : List ℕ) → digits_more base bs ≤ length bs
unfolding digits_more
more_within base [] = omega arith
more_within base (b ∷ bs) = digits_within_by (digits_more base bs) (length bs) (is_digit base b) (nat_eq b 95) (more_within base bs)

pub more_taken : (base : ℕ) (bs : List ℕ) → are_more_digits base (take (digits_more base bs) bs) ≡ true
unfolding digits_more are_more_digits
more_taken base [] = refl
more_taken base (b ∷ bs) = more_taken_by base b bs (is_digit base b) (nat_eq b 95) (digits_more base bs) refl refl (more_within base bs) (more_taken base bs)

more_longer_by : (base b : ℕ) (bs : List ℕ) (d e : Bool) (r m : ℕ) → is_digit base b ≡ d → nat_eq b 95 ≡ e → cond d (suc r) (cond e (over r) 0) < suc m → (r < m → are_more_digits base (take m bs) ≡ false)
    → are_more_digits base (b ∷ take m bs) ≡ false
unfolding are_more_digits
more_longer_by base b bs true e r m p q lt h = let f = h (omega arith) in rw (p, f) refl
more_longer_by base b bs false false r m p q lt h = rw (p, q) refl
more_longer_by base b bs false true zero zero p q lt h = rw (p, q) refl
more_longer_by base b bs false true zero (suc m) p q lt h = let f = h (omega arith) in rw f (and_false _)
more_longer_by base b bs false true (suc r) m p q lt h = let f = h (omega arith) in rw f (and_false _)

pub more_longer : (base : ℕ) (bs : List ℕ) (n : ℕ) → digits_more base bs < n → n ≤ length bs → are_more_digits base (take n bs) ≡ false
unfolding digits_more
more_longer base [] n lt le = absurd (omega arith)
more_longer base (b ∷ bs) zero lt le = absurd (omega arith)
more_longer base (b ∷ bs) (suc m) lt le = more_longer_by base b bs (is_digit base b) (nat_eq b 95) (digits_more base bs) m refl refl lt (λ h. more_longer base bs m h (omega arith))

digits_taken_by : (base b : ℕ) (bs : List ℕ) (d : Bool) → is_digit base b ≡ d → 0 < cond d (suc (digits_more base bs)) 0 → are_digits base (take (cond d (suc (digits_more base bs)) 0) (b ∷ bs)) ≡ true
digits_taken_by base b bs true p lt = let f = more_taken base bs in rw (p, f) refl
digits_taken_by base b bs false p lt = absurd (omega arith)

pub digits_taken : (base : ℕ) (bs : List ℕ) → 0 < digits_len base bs → are_digits base (take (digits_len base bs) bs) ≡ true
unfolding digits_len
digits_taken base [] lt = absurd (omega arith)
digits_taken base (b ∷ bs) lt = digits_taken_by base b bs (is_digit base b) refl lt

digits_longer_by : (base b : ℕ) (bs : List ℕ) (d : Bool) (m : ℕ) → is_digit base b ≡ d → cond d (suc (digits_more base bs)) 0 < suc m → m ≤ length bs → are_digits base (b ∷ take m bs) ≡ false
digits_longer_by base b bs true m p lt le = let f = more_longer base bs m (omega arith) le in rw (p, f) refl
digits_longer_by base b bs false m p lt le = rw p refl

pub digits_longer : (base : ℕ) (bs : List ℕ) (n : ℕ) → digits_len base bs < n → n ≤ length bs → are_digits base (take n bs) ≡ false
unfolding digits_len
digits_longer base [] n lt le = absurd (omega arith)
digits_longer base (b ∷ bs) zero lt le = absurd (omega arith)
digits_longer base (b ∷ bs) (suc m) lt le = digits_longer_by base b bs (is_digit base b) m refl lt (omega arith)

pub digits_within : (base : ℕ) (bs : List ℕ) → digits_len base bs ≤ length bs
unfolding digits_len
digits_within base [] = omega arith
digits_within base (b ∷ bs) = digits_within_by2 (digits_more base bs) (length bs) (is_digit base b) (more_within base bs)
  where
    digits_within_by2 : (n m : ℕ) (d : Bool) → n ≤ m → cond d (suc n) 0 ≤ suc m
    digits_within_by2 n m true h = omega arith
    digits_within_by2 n m false h = omega arith
