-- Equality of numbers as a test.
use Rattle.std.proofs.Common.{◌≡◌, ◌∙◌, ℕ, ◌==◌, Bool, true, false, refl, sym, ap, true≢false, eqb→eq, T}
use lib.Dec.{eqb_refl}

holds : (b : Bool) → b ≡ true → T b
holds true e = tt
holds false e = cc

is_true : (b : Bool) → T b → b ≡ true
is_true true t = refl
is_true false t = absurd t

pub eq_of : (x y : ℕ) → (x == y) ≡ true → x ≡ y
eq_of x y e = eqb→eq x y (holds (x == y) e)

pub eq_refl : (x : ℕ) → (x == x) ≡ true
eq_refl x = is_true (x == x) (eqb_refl x)

pub flip_false : (x y : ℕ) → (x == y) ≡ false → (y == x) ≡ false
flip_false x y e = (elim (y == x) as (λ b. (y == x) ≡ b → b ≡ false) [
  | true ↦ λ at. absurd (true≢false (sym (eq_refl x) ∙ ap (λ n. x == n) (sym (eq_of y x at)) ∙ e))
  | false ↦ λ at. refl
]) refl

-- a test may be asked from either side
pub eq_symm : (x y : ℕ) → (x == y) ≡ (y == x)
eq_symm x y = (elim (x == y) as (λ b. (x == y) ≡ b → b ≡ (y == x)) [
  | true ↦ λ at. sym (ap (λ n. y == n) (eq_of x y at) ∙ eq_refl y)
  | false ↦ λ at. sym (flip_false x y at)
]) refl
