-- Numbers of 64 bits with a sign.
use Rattle.std.specs.Prelude.{ℕ, ◌^◌, ◌==◌, ℤ, pos, negsuc, int_div, int_rem, Bool, false, nat_lt, Option, Some, None, if◌then◌else◌}

-- whether a number has 64 bits
abbrev pub fits : ℤ → Bool
fits (pos n) = nat_lt n (2 ^ 63)
fits (negsuc n) = nat_lt n (2 ^ 63)

abbrev pub is_zero : ℤ → Bool
is_zero (pos n) = n == 0
is_zero (negsuc n) = false

-- one number where another has 64 bits
abbrev pub where_fits : ℤ → ℤ → Option ℤ
where_fits tested number = if fits tested then Some number else None

-- a number, if it has 64 bits
unfoldable pub within : ℤ → Option ℤ
within number = where_fits number number

-- The quotient towards zero, as `int_div` is it.
unfoldable pub quotient_of : ℤ → ℤ → Option ℤ
quotient_of a b = within (int_div a b)

-- The remainder with the sign of the dividend, as `int_rem` is it, where there is a quotient.
unfoldable pub remainder_of : ℤ → ℤ → Option ℤ
remainder_of a b = where_fits (int_div a b) (int_rem a b)

-- a place in a list, counted from 0
abbrev pub place_of : ℤ → Option ℕ
place_of (pos n) = Some n
place_of (negsuc n) = None
