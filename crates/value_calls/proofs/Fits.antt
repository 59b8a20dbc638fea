-- A checked operation gives the number that fits.
use Rattle.std.proofs.Common.{◌≡◌, ℤ, pos, negsuc, Option, Some, None, true, false, arith, FitsSigned, w64, ap, refl, ◌∙◌, zero, suc}
use Rattle.std.specs.Option.{SomeIff}
use Rattle.std.specs.Prelude.{neg_ℤ, unsigned_abs, int_div, int_rem}
use Rattle.std.specs.Int.{CanDivide, IsNonZero}
use Rattle.std.proofs.lemmas.Int.{ints}
use Rattle.std.proofs.lemmas.Bool.Decides.{nat_tests}
use Rattle.value_calls.specs.Integers.{fits, is_zero, within, where_fits, quotient_of, remainder_of}

pub fits_true : (z : ℤ) → FitsSigned w64 z → fits z ≡ true
fits_true (pos n) h = grind (arith, nat_tests, ints)
fits_true (negsuc n) h = grind (arith, nat_tests, ints)

pub fits_false : (z : ℤ) → (FitsSigned w64 z → ⊥) → fits z ≡ false
fits_false (pos n) h = grind (arith, nat_tests, ints)
fits_false (negsuc n) h = grind (arith, nat_tests, ints)

pub where_fits_from : (o : Option ℤ) (tested number : ℤ) → SomeIff o (FitsSigned w64 tested) number → o ≡ where_fits tested number
where_fits_from None tested number h = rw (fits_false tested h) refl
where_fits_from (Some x) tested number h = rw (fits_true tested h.0) (ap Some h.1)

pub within_from : (o : Option ℤ) (number : ℤ) → SomeIff o (FitsSigned w64 number) number → o ≡ within number
unfolding within
within_from o number h = where_fits_from o number number h

-- the number with the other sign fits exactly where the one without a sign does
neg_fits : (a : ℤ) → FitsSigned w64 a → fits (neg_ℤ a) ≡ fits (pos (unsigned_abs a))
neg_fits (pos zero) h = refl
neg_fits (pos (suc n)) h = grind (arith, nat_tests, ints)
neg_fits (negsuc n) h = refl

pub absolute_from : (o : Option ℤ) (a : ℤ) → FitsSigned w64 a → SomeIff o (FitsSigned w64 (neg_ℤ a)) (pos (unsigned_abs a)) → o ≡ within (pos (unsigned_abs a))
unfolding within
absolute_from o a f h = where_fits_from o (neg_ℤ a) (pos (unsigned_abs a)) h ∙ (rw (neg_fits a f) refl)

nonzero : (b : ℤ) → FitsSigned w64 b → is_zero b ≡ false → IsNonZero w64 b
nonzero (pos n) f h = grind (arith, nat_tests, ints)
nonzero (negsuc n) f h = grind (arith, nat_tests, ints)

divides : (o : Option ℤ) (a b number : ℤ) → IsNonZero w64 b → SomeIff o (CanDivide w64 a b) number → SomeIff o (FitsSigned w64 (int_div a b)) number
divides None a b number n h = λ fit. h (n, fit)
divides (Some x) a b number n h = (h.0.1, h.1)

pub quotient_from : (o : Option ℤ) (a b : ℤ) → FitsSigned w64 b → is_zero b ≡ false → SomeIff o (CanDivide w64 a b) (int_div a b) → o ≡ quotient_of a b
unfolding quotient_of
quotient_from o a b f z h = within_from o (int_div a b) (divides o a b (int_div a b) (nonzero b f z) h)

pub remainder_from : (o : Option ℤ) (a b : ℤ) → FitsSigned w64 b → is_zero b ≡ false → SomeIff o (CanDivide w64 a b) (int_rem a b) → o ≡ remainder_of a b
unfolding remainder_of
remainder_from o a b f z h = where_fits_from o (int_div a b) (int_rem a b) (divides o a b (int_rem a b) (nonzero b f z) h)
