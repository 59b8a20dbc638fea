-- The number of a word, digit after digit.
use Rattle.std.proofs.Common.{◌≡◌, ℕ, ◌+◌, ◌-◌, ◌*◌, ◌<◌, ◌≤◌, ◌&&◌, Bool, true, false, arith, List, ◌∷◌, length, nat_lt, nat_le, Option, Some, None, ap, if◌then◌else◌}
use Rattle.std.specs.List.{list_all}
use Rattle.std.specs.Char.{is_ascii_digit}
use Rattle.std.proofs.lemmas.Bool.Decides.{nat_tests}
use Rattle.event_script.specs.Words.{decimal, number_of}

-- the number where these digits continue this value
abbrev pub continued : ℕ → List ℕ → Option ℕ
continued value digits = if list_all is_ascii_digit digits then Some (decimal value digits) else None

pub number_start : (word : List ℕ) → 0 < length word → length word ≤ 4 → number_of word ≡ continued 0 word
number_start word some short =
    let long : nat_lt 0 (length word) ≡ true = grind (arith, nat_tests) in
    let fits : nat_le (length word) 4 ≡ true = grind (arith, nat_tests) in
    (λ i. if long i && fits i && list_all is_ascii_digit word then Some (decimal 0 word) else None)

pub number_next : (value b : ℕ) (digits : List ℕ) → is_ascii_digit b ≡ true → continued value (b ∷ digits) ≡ continued (10 * value + (b - 48)) digits
number_next value b digits is = ap (λ (t : Bool). if t && list_all is_ascii_digit digits then Some (decimal (10 * value + (b - 48)) digits) else None) is

pub number_wrong : (value b : ℕ) (digits : List ℕ) → is_ascii_digit b ≡ false → continued value (b ∷ digits) ≡ None
number_wrong value b digits is = ap (λ (t : Bool). if t && list_all is_ascii_digit digits then Some (decimal (10 * value + (b - 48)) digits) else None) is

-- so many digits spell no more than this
pub record IsShort (digits value : ℕ) : Type 0 where
  pub none : digits ≤ 0 → value ≤ 0
  pub one : digits ≤ 1 → value ≤ 9
  pub two : digits ≤ 2 → value ≤ 99
  pub three : digits ≤ 3 → value ≤ 999
  pub four : digits ≤ 4 → value ≤ 9999
