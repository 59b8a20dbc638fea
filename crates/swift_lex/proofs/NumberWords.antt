-- The number that the code finds is the longest.
use Rattle.std.proofs.Common.{◌≡◌, ℕ, zero, suc, ◌+◌, ◌-◌, ◌<◌, ◌≤◌, Bool, true, false, ◌&&◌, inl, inr, List, [], ◌∷◌, length, take, drop, refl, sym, subst, arith}
use Rattle.std.specs.Prelude.{nat_eq, nat_lt, nat_le, Option}
use Rattle.std.proofs.lemmas.Bool.{eqb-true, ltb-false, ltb-true, leb-true, lt-ltb}
use Rattle.swift_lex.specs.Spellings.{is_decimal, int_of}
use Rattle.swift_lex.specs.Runs.{digits_len, has_base, base_at, prefix_len}
use Rattle.swift_lex.specs.Words.{are_more_digits, are_digits, is_based, is_number, number_meant}
use Rattle.swift_lex.proofs.WordLemmas.{either_bool, digits_taken, digits_longer, digits_within}

-- the number at the front of bs takes m bytes, and means o
pub record Reads (bs : List ℕ) (m : ℕ) (o : Option ℕ) : Type 0 where
  pub within : m ≤ length bs
  pub some : 0 < m
  pub taken : is_number (take m bs) ≡ true
  pub longer : (n : ℕ) → m < n → n ≤ length bs → is_number (take n bs) ≡ false
  pub means : number_meant (take m bs) ≡ o

longer16 : (ds : List ℕ) (n : ℕ) → suc (suc (digits_len 16 ds)) < n → n ≤ suc (suc (length ds)) → is_number (take n (48 ∷ 120 ∷ ds)) ≡ false
unfolding is_number are_more_digits
longer16 ds zero lt le = absurd (omega arith)
longer16 ds (suc zero) lt le = absurd (omega arith)
longer16 ds (suc (suc k)) lt le = let f = digits_longer 16 ds k (omega arith) (omega arith) in rw f refl

longer8 : (ds : List ℕ) (n : ℕ) → suc (suc (digits_len 8 ds)) < n → n ≤ suc (suc (length ds)) → is_number (take n (48 ∷ 111 ∷ ds)) ≡ false
unfolding is_number are_more_digits
longer8 ds zero lt le = absurd (omega arith)
longer8 ds (suc zero) lt le = absurd (omega arith)
longer8 ds (suc (suc k)) lt le = let f = digits_longer 8 ds k (omega arith) (omega arith) in rw f refl

longer2 : (ds : List ℕ) (n : ℕ) → suc (suc (digits_len 2 ds)) < n → n ≤ suc (suc (length ds)) → is_number (take n (48 ∷ 98 ∷ ds)) ≡ false
unfolding is_number are_more_digits
longer2 ds zero lt le = absurd (omega arith)
longer2 ds (suc zero) lt le = absurd (omega arith)
longer2 ds (suc (suc k)) lt le = let f = digits_longer 2 ds k (omega arith) (omega arith) in rw f refl

reads16 : (ds : List ℕ) → 0 < digits_len 16 ds → Reads (48 ∷ 120 ∷ ds) (suc (suc (digits_len 16 ds))) (int_of 16 (take (digits_len 16 ds) ds))
unfolding is_number number_meant are_more_digits
reads16 ds some =
    let f = digits_taken 16 ds some in
    let w = digits_within 16 ds in
    record { within = omega arith; some = omega arith; taken = rw f refl; longer = λ n lt le. longer16 ds n lt le; means = rw f refl }

reads8 : (ds : List ℕ) → 0 < digits_len 8 ds → Reads (48 ∷ 111 ∷ ds) (suc (suc (digits_len 8 ds))) (int_of 8 (take (digits_len 8 ds) ds))
unfolding is_number number_meant are_more_digits
reads8 ds some =
    let f = digits_taken 8 ds some in
    let w = digits_within 8 ds in
    record { within = omega arith; some = omega arith; taken = rw f refl; longer = λ n lt le. longer8 ds n lt le; means = rw f refl }

reads2 : (ds : List ℕ) → 0 < digits_len 2 ds → Reads (48 ∷ 98 ∷ ds) (suc (suc (digits_len 2 ds))) (int_of 2 (take (digits_len 2 ds) ds))
unfolding is_number number_meant are_more_digits
reads2 ds some =
    let f = digits_taken 2 ds some in
    let w = digits_within 2 ds in
    record { within = omega arith; some = omega arith; taken = rw f refl; longer = λ n lt le. longer2 ds n lt le; means = rw f refl }

based_none_by : (base : ℕ) (ds : List ℕ) (p q : Bool) (k : ℕ) → (p && (q && nat_lt 0 (digits_len base ds))) ≡ false → k ≤ length ds → (p && (q && are_digits base (take k ds))) ≡ false
based_none_by base ds false q k h le = refl
based_none_by base ds true false k h le = refl
based_none_by base ds true true zero h le = refl
based_none_by base ds true true (suc k) h le = let z : digits_len base ds ≤ 0 = ltb-false 0 (digits_len base ds) h in digits_longer base ds (suc k) (omega arith) le

based_none : (base x : ℕ) (bs : List ℕ) (n : ℕ) → has_base base x bs ≡ false → n ≤ length bs → is_based base x (take n bs) ≡ false
based_none base x [] zero h le = refl
based_none base x [] (suc n) h le = refl
based_none base x (b ∷ []) zero h le = refl
based_none base x (b ∷ []) (suc zero) h le = refl
based_none base x (b ∷ []) (suc (suc k)) h le = refl
based_none base x (b ∷ c ∷ ds) zero h le = refl
based_none base x (b ∷ c ∷ ds) (suc zero) h le = refl
based_none base x (b ∷ c ∷ ds) (suc (suc k)) h le = based_none_by base ds (nat_eq b 48) (nat_eq c x) k h (omega arith)

-- no prefix counts
reads10 : (bs : List ℕ) → 0 < digits_len 10 bs → has_base 16 120 bs ≡ false → has_base 8 111 bs ≡ false → has_base 2 98 bs ≡ false → Reads bs (digits_len 10 bs) (int_of 10 (take (digits_len 10 bs) bs))
unfolding is_number number_meant
reads10 bs some h16 h8 h2 =
    let w = digits_within 10 bs in
    let f16 = based_none 16 120 bs (digits_len 10 bs) h16 w in
    let f8 = based_none 8 111 bs (digits_len 10 bs) h8 w in
    let f2 = based_none 2 98 bs (digits_len 10 bs) h2 w in
    let f = digits_taken 10 bs some in
    record {
      within = w;
      some = some;
      taken = rw (f16, f8, f2, f) refl;
      longer = λ n lt le.
          let g16 = based_none 16 120 bs n h16 le in
          let g8 = based_none 8 111 bs n h8 le in
          let g2 = based_none 2 98 bs n h2 le in
          let g = digits_longer 10 bs n lt le in
          rw (g16, g8, g2, g) refl;
      means = rw (f16, f8, f2) refl;
    }

-- a prefix that counts is a `0`, the letter and some digits
pub record Prefixed (base x : ℕ) (bs : List ℕ) : Type 0 where
  pub digits : List ℕ
  pub is : bs ≡ 48 ∷ x ∷ digits
  pub some : 0 < digits_len base digits

prefixed_by : (base x b c : ℕ) (ds : List ℕ) (p q r : Bool) → nat_eq b 48 ≡ p → nat_eq c x ≡ q → nat_lt 0 (digits_len base ds) ≡ r → (p && (q && r)) ≡ true → Prefixed base x (b ∷ c ∷ ds)
prefixed_by base x b c ds true true true ep eq er h =
    let eb : b ≡ 48 = eqb-true b 48 ep in
    let ec : c ≡ x = eqb-true c x eq in
    record { digits = ds; is = rw (eb, ec) refl; some = ltb-true 0 (digits_len base ds) er }
prefixed_by base x b c ds true true false ep eq er h = absurd cc
prefixed_by base x b c ds true false r ep eq er h = absurd cc
prefixed_by base x b c ds false q r ep eq er h = absurd cc

prefixed : (base x : ℕ) (bs : List ℕ) → has_base base x bs ≡ true → Prefixed base x bs
prefixed base x [] h = absurd cc
prefixed base x (b ∷ []) h = absurd cc
prefixed base x (b ∷ c ∷ ds) h = prefixed_by base x b c ds (nat_eq b 48) (nat_eq c x) (nat_lt 0 (digits_len base ds)) refl refl refl h

-- how many bytes the number at the front takes, and what it means
abbrev pub number_len : ℕ → List ℕ → ℕ
number_len base bs = prefix_len base + digits_len base (drop (prefix_len base) bs)

abbrev pub number_in : ℕ → List ℕ → Option ℕ
number_in base bs = int_of base (take (digits_len base (drop (prefix_len base) bs)) (drop (prefix_len base) bs))

at_two : (n : ℕ) → 2 + n ≡ suc (suc n)
at_two n = omega arith

at_zero : (n : ℕ) → 0 + n ≡ n
at_zero n = omega arith

and_second : (a b : Bool) → (a && b) ≡ true → b ≡ true
and_second true b e = e
and_second false b e = absurd cc

decimal_digit : (b : ℕ) (bs : List ℕ) → is_decimal b ≡ true → 0 < digits_len 10 (b ∷ bs)
unfolding digits_len
decimal_digit b bs dec =
    let le : b ≤ 57 = leb-true b 57 (and_second (nat_le 48 b) (nat_le b 57) dec) in
    let lt : nat_lt (b - 48) 10 ≡ true = lt-ltb (b - 48) 10 (omega arith) in
    rw (dec, lt) (omega arith)

reads_in16 : (bs : List ℕ) → has_base 16 120 bs ≡ true → Reads bs (2 + digits_len 16 (drop 2 bs)) (int_of 16 (take (digits_len 16 (drop 2 bs)) (drop 2 bs)))
reads_in16 bs h =
    let p = prefixed 16 120 bs h in
    subst (λ (v : List ℕ). Reads v (2 + digits_len 16 (drop 2 v)) (int_of 16 (take (digits_len 16 (drop 2 v)) (drop 2 v)))) (sym p.is) (rw (at_two (digits_len 16 p.digits)) (reads16 p.digits p.some))

reads_in8 : (bs : List ℕ) → has_base 8 111 bs ≡ true → Reads bs (2 + digits_len 8 (drop 2 bs)) (int_of 8 (take (digits_len 8 (drop 2 bs)) (drop 2 bs)))
reads_in8 bs h =
    let p = prefixed 8 111 bs h in
    subst (λ (v : List ℕ). Reads v (2 + digits_len 8 (drop 2 v)) (int_of 8 (take (digits_len 8 (drop 2 v)) (drop 2 v)))) (sym p.is) (rw (at_two (digits_len 8 p.digits)) (reads8 p.digits p.some))

reads_in2 : (bs : List ℕ) → has_base 2 98 bs ≡ true → Reads bs (2 + digits_len 2 (drop 2 bs)) (int_of 2 (take (digits_len 2 (drop 2 bs)) (drop 2 bs)))
reads_in2 bs h =
    let p = prefixed 2 98 bs h in
    subst (λ (v : List ℕ). Reads v (2 + digits_len 2 (drop 2 v)) (int_of 2 (take (digits_len 2 (drop 2 v)) (drop 2 v)))) (sym p.is) (rw (at_two (digits_len 2 p.digits)) (reads2 p.digits p.some))

reads_in10 : (bs : List ℕ) → 0 < digits_len 10 bs → has_base 16 120 bs ≡ false → has_base 8 111 bs ≡ false → has_base 2 98 bs ≡ false → Reads bs (0 + digits_len 10 bs) (int_of 10 (take (digits_len 10 bs) bs))
reads_in10 bs some h16 h8 h2 = rw (at_zero (digits_len 10 bs)) (reads10 bs some h16 h8 h2)

pub number_reads : (b : ℕ) (bs : List ℕ) → is_decimal b ≡ true → Reads (b ∷ bs) (number_len (base_at (b ∷ bs)) (b ∷ bs)) (number_in (base_at (b ∷ bs)) (b ∷ bs))
unfolding base_at
number_reads b bs dec =
    elim (either_bool (has_base 16 120 (b ∷ bs))) [
      | inl h ↦ rw h (reads_in16 (b ∷ bs) h)
      | inr h16 ↦
          elim (either_bool (has_base 8 111 (b ∷ bs))) [
            | inl h ↦ rw (h16, h) (reads_in8 (b ∷ bs) h)
            | inr h8 ↦
                elim (either_bool (has_base 2 98 (b ∷ bs))) [
                  | inl h ↦ rw (h16, h8, h) (reads_in2 (b ∷ bs) h)
                  | inr h2 ↦ rw (h16, h8, h2) (reads_in10 (b ∷ bs) (decimal_digit b bs dec) h16 h8 h2)
                ]
          ]
    ]
