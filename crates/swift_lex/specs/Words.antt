-- The words that are tokens outside of strings, apart from how they are found. The token at a place is the longest of them.
-- After The Swift Programming Language, 'Lexical Structure'.
use Rattle.std.specs.Prelude.{ℕ, zero, suc, Bool, true, false, not, ◌&&◌, ◌||◌, if◌then◌else◌, List, [], ◌∷◌, length, take, drop, map, Option, Some, None, nat_eq, pos}
use Rattle.std.specs.List.{list_all}
use Rattle.swift_lex.specs.declared.token.TokenKind.{TokenKind}
use Rattle.swift_lex.specs.declared.token.TokenKind.TheVariants as kind
use Rattle.swift_lex.specs.Spellings.{is_among, is_letter, is_decimal, is_name_byte, is_reserved, three, two, one, is_digit, int_of}

abbrev pub is_nil : List ℕ → Bool
is_nil [] = true
is_nil (b ∷ bs) = false

-- ---- names

-- a letter or `_`, then letters, digits and `_`
abbrev pub is_name : List ℕ → Bool
is_name [] = false
is_name (b ∷ bs) = is_letter b && list_all is_name_byte bs

-- `$`, `@` and `#`, which stand before a name
abbrev pub is_mark : ℕ → Bool
is_mark b = nat_eq b 36 || nat_eq b 64 || nat_eq b 35

-- ---- signs

abbrev pub single : ℕ → List ℕ
single b = b ∷ []

unfoldable pub is_sign : List ℕ → Bool
is_sign word = is_among three word || (is_among two word || is_among (map single one) word)

-- ---- numbers

-- digits, with `_` between them, behind a digit
unfoldable pub are_more_digits : ℕ → List ℕ → Bool
are_more_digits base [] = true
are_more_digits base (b ∷ bs) = (is_digit base b || (nat_eq b 95 && not (is_nil bs))) && are_more_digits base bs

-- digits, with `_` between them
abbrev pub are_digits : ℕ → List ℕ → Bool
are_digits base [] = false
are_digits base (b ∷ bs) = is_digit base b && are_more_digits base bs

-- `0`, the letter of the base and digits
abbrev pub is_based : ℕ → ℕ → List ℕ → Bool
is_based base x [] = false
is_based base x (b ∷ []) = false
is_based base x (b ∷ c ∷ bs) = nat_eq b 48 && (nat_eq c x && are_digits base bs)

-- in base 10, or in base 16, 8 or 2 with the letter `x`, `o` or `b`
unfoldable pub is_number : List ℕ → Bool
is_number word = is_based 16 120 word || (is_based 8 111 word || (is_based 2 98 word || are_digits 10 word))

unfoldable pub number_meant : List ℕ → Option ℕ
number_meant word = if is_based 16 120 word then int_of 16 (drop 2 word) else (if is_based 8 111 word then int_of 8 (drop 2 word) else (if is_based 2 98 word then int_of 2 (drop 2 word) else int_of 10 word))

-- ---- all words, by their first byte

abbrev pub is_word_by : ℕ → List ℕ → Bool
is_word_by b bs =
    if nat_eq b 34 then is_nil bs
    else (if is_decimal b then is_number (b ∷ bs)
    else (if is_letter b then is_name (b ∷ bs)
    else (if is_mark b then is_name bs || is_sign (b ∷ bs) else is_sign (b ∷ bs))))

unfoldable pub is_word : List ℕ → Bool
is_word [] = false
is_word (b ∷ bs) = is_word_by b bs

-- ---- what they mean

abbrev pub word_kind : List ℕ → TokenKind
word_kind w = if is_reserved w then kind.Reserved w else kind.Name w

abbrev pub marked_kind : ℕ → List ℕ → TokenKind
marked_kind b w = if nat_eq b 36 then kind.Dollar w else (if nat_eq b 64 then kind.AtName w else kind.HashName w)

abbrev pub as_int : Option ℕ → Option TokenKind
as_int None = None
as_int (Some n) = Some (kind.Int (pos n))

abbrev pub meant_by : ℕ → List ℕ → Option TokenKind
meant_by b bs =
    if nat_eq b 34 then Some kind.StrOpen
    else (if is_decimal b then as_int (number_meant (b ∷ bs))
    else (if is_letter b then Some (word_kind (b ∷ bs))
    else (if is_mark b && not (is_nil bs) then Some (marked_kind b (b ∷ bs)) else Some (kind.Sign (b ∷ bs)))))

-- the token that a word is; none for a number out of range
unfoldable pub meant : List ℕ → Option TokenKind
meant [] = None
meant (b ∷ bs) = meant_by b bs

-- ---- the longest

-- the greatest length up to n at which the front of bs passes the test, or 0
abbrev pub longest_up_to : (List ℕ → Bool) → List ℕ → ℕ → ℕ
longest_up_to test bs zero = 0
longest_up_to test bs (suc n) = if test (take (suc n) bs) then suc n else longest_up_to test bs n

unfoldable pub longest : (List ℕ → Bool) → List ℕ → ℕ
longest test bs = longest_up_to test bs (length bs)
