-- Runs of digits with `_` between them.
use Rattle.std.proofs.Common.{◌≡◌, ℕ, zero, suc, ◌+◌, ◌<◌, ◌≤◌, cond, List, [], ◌∷◌, length, get_or, drop, refl, arith, add-one, drop-cons}
use Rattle.std.specs.Prelude.{nat_eq}
use Rattle.swift_lex.specs.Spellings.{is_digit}
use Rattle.swift_lex.specs.Runs.{over, digits_more}

-- with `taken` bytes known to belong to the number and `at` bytes read, n more digits
abbrev pub settled : ℕ → ℕ → ℕ → ℕ
settled taken at zero = taken
settled taken at (suc n) = at + suc n

pub settle_digit : (taken at n : ℕ) → settled taken at (suc n) ≡ settled (at + 1) (at + 1) n
settle_digit taken at zero = refl
settle_digit taken at (suc n) = omega arith

pub settle_line : (taken at n : ℕ) → settled taken at (over n) ≡ settled taken (at + 1) n
settle_line taken at zero = refl
settle_line taken at (suc n) = omega arith

pub settle_none : (taken at : ℕ) → settled taken at 0 ≡ taken
settle_none taken at = refl

pub digits_step : (base : ℕ) (bs : List ℕ) (i : ℕ) → i < length bs
    → digits_more base (drop i bs) ≡ cond (is_digit base (get_or bs i 0)) (suc (digits_more base (drop (i + 1) bs))) (cond (nat_eq (get_or bs i 0) 95) (over (digits_more base (drop (i + 1) bs))) 0)
unfolding digits_more
digits_step base bs i lt = rw (add-one, drop-cons bs i 0) refl

pub digits_end : (base : ℕ) (bs : List ℕ) (i : ℕ) → length bs ≤ i → digits_more base (drop i bs) ≡ 0
unfolding digits_more
digits_end base [] zero le = refl
digits_end base [] (suc i) le = refl
digits_end base (b ∷ bs) zero le = absurd (omega arith)
digits_end base (b ∷ bs) (suc i) le = digits_end base bs i (omega arith)
