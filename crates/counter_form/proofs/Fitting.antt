-- What the kind of a text says.
use Rattle.std.proofs.Common.{◌≡◌, ℕ, ◌^◌, ◌<◌, ◌≤◌, ◌&&◌, nat_le, true, List, length, arith}
use Rattle.std.specs.List.{list_all}
use Rattle.std.proofs.Math.Nat.{pow-le-pow_right}
use Rattle.std.proofs.lemmas.Bool.Decides.{nat_tests}
use Rattle.view_engine.specs.Counter.{is_plain}
use Rattle.counter_form.specs.Pieces.{is_of, is_digit}
use Rattle.counter_form.specs.declared.pieces.Kind.TheVariants.{Number, Caption}
use Rattle.counter_form.proofs.Cutting.{and_left, and_right}

most : (n m : ℕ) → nat_le n m ≡ true → n ≤ m
most n m is = grind (arith, nat_tests)

pub number_digits : (text : List ℕ) → is_of Number text ≡ true → list_all is_digit text ≡ true
number_digits text is = and_left (list_all is_digit text) (nat_le 1 (length text) && nat_le (length text) 9) is

pub number_few : (text : List ℕ) → is_of Number text ≡ true → length text ≤ 9
number_few text is = most (length text) 9 (and_right (nat_le 1 (length text)) (nat_le (length text) 9) (and_right (list_all is_digit text) (nat_le 1 (length text) && nat_le (length text) 9) is))

pub caption_plain : (text : List ℕ) → is_of Caption text ≡ true → list_all is_plain text ≡ true
caption_plain text is = and_left (list_all is_plain text) (nat_le (length text) 40) is

pub caption_short : (text : List ℕ) → is_of Caption text ≡ true → length text ≤ 40
caption_short text is = most (length text) 40 (and_right (list_all is_plain text) (nat_le (length text) 40) is)

pub below_billion : (n k : ℕ) → n < 10 ^ k → k ≤ 9 → n < 1000000000
below_billion n k small few =
    let power : 10 ^ k ≤ 1000000000 = pow-le-pow_right {n = 10} (omega arith) {i = k} {j = 9} few in
    omega arith
