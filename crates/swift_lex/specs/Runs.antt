-- How the code finds the longest word: how many bytes it takes at the front of a text. Only private contracts cite this.
use Rattle.std.specs.Prelude.{ℕ, zero, suc, ◌+◌, Bool, true, false, ◌&&◌, if◌then◌else◌, List, [], ◌∷◌, length, take, drop, Option, Some, None, codes, nat_eq, nat_lt, pos}
use Rattle.std.specs.List.{list_any}
use Rattle.swift_lex.specs.declared.token.TokenKind.TheVariants as kind
use Rattle.swift_lex.specs.declared.item.Item.{Item}
use Rattle.swift_lex.specs.Spellings.{begins_with, is_letter, is_decimal, is_name_byte, run, is_digit, int_of, chars_len, three, two, one}
use Rattle.swift_lex.specs.Words.{is_mark, word_kind, marked_kind}
use Rattle.swift_lex.specs.Items.{separator, as_token, when_some, is_blank, blank_item, comment_item}

abbrev pub begins_name : List ℕ → Bool
begins_name [] = false
begins_name (b ∷ bs) = is_letter b

-- the first of the words that stands at the front
abbrev pub first_word : List (List ℕ) → List ℕ → Option (List ℕ)
first_word [] bs = None
first_word (w ∷ ws) bs = if begins_with w bs then Some w else first_word ws bs

abbrev pub word_len : Option (List ℕ) → ℕ
word_len None = 0
word_len (Some w) = length w

abbrev pub one_len : List ℕ → ℕ
one_len [] = 0
one_len (b ∷ bs) = if list_any (λ y. nat_eq y b) one then 1 else 0

unfoldable pub two_len : List ℕ → ℕ
two_len bs = word_len (first_word two bs)

abbrev pub or_else : ℕ → ℕ → ℕ
or_else m n = if nat_eq m 0 then n else m

-- how many bytes the longest sign at the front takes, or 0
abbrev pub sign_len : List ℕ → ℕ
sign_len bs = or_else (word_len (first_word three bs)) (or_else (two_len bs) (one_len bs))

-- ---- numbers

-- a `_` counts where a digit comes later
abbrev pub over : ℕ → ℕ
over zero = 0
over (suc n) = suc (suc n)

-- how many bytes of digits, with `_` between them, go on behind a digit
unfoldable pub digits_more : ℕ → List ℕ → ℕ
digits_more base [] = 0
digits_more base (b ∷ bs) = if is_digit base b then suc (digits_more base bs) else (if nat_eq b 95 then over (digits_more base bs) else 0)

-- how many bytes of digits, with `_` between them, stand at the front
unfoldable pub digits_len : ℕ → List ℕ → ℕ
digits_len base [] = 0
digits_len base (b ∷ bs) = if is_digit base b then suc (digits_more base bs) else 0

-- `0`, the letter of the base and a digit
abbrev pub has_base : ℕ → ℕ → List ℕ → Bool
has_base base x [] = false
has_base base x (b ∷ []) = false
has_base base x (b ∷ c ∷ bs) = nat_eq b 48 && (nat_eq c x && nat_lt 0 (digits_len base bs))

-- the base of the number at the front
unfoldable pub base_at : List ℕ → ℕ
base_at bs = if has_base 16 120 bs then 16 else (if has_base 8 111 bs then 8 else (if has_base 2 98 bs then 2 else 10))

abbrev pub prefix_len : ℕ → ℕ
prefix_len base = if nat_eq base 10 then 0 else 2

-- ---- the token at the front, outside of strings

abbrev pub number_item : ℕ → ℕ → List ℕ → Option Item
number_item base p bs = when_some (λ v. as_token (p + digits_len base (drop p bs)) (kind.Int (pos v))) (int_of base (take (digits_len base (drop p bs)) (drop p bs)))

abbrev pub word_item : List ℕ → Item
word_item bs = as_token (run is_name_byte bs) (word_kind (take (run is_name_byte bs) bs))

abbrev pub begins_marked : ℕ → List ℕ → Bool
begins_marked b bs = is_mark b && begins_name (drop 1 bs)

abbrev pub marked_len : List ℕ → ℕ
marked_len bs = run is_name_byte (drop 1 bs) + 1

abbrev pub marked_item : ℕ → List ℕ → Item
marked_item b bs = as_token (marked_len bs) (marked_kind b (take (marked_len bs) bs))

abbrev pub sign_item : List ℕ → Option Item
sign_item bs = if nat_eq (sign_len bs) 0 then None else Some (as_token (sign_len bs) (kind.Sign (take (sign_len bs) bs)))

abbrev pub token_at : ℕ → List ℕ → Option Item
token_at b bs =
    if nat_eq b 34 then Some (as_token 1 kind.StrOpen)
    else (if is_decimal b then number_item (base_at bs) (prefix_len (base_at bs)) bs
    else (if is_letter b then Some (word_item bs)
    else (if begins_marked b bs then Some (marked_item b bs) else sign_item bs)))

abbrev pub found_at : Bool → ℕ → List ℕ → Option Item
found_at in_hole b bs =
    if is_blank b then blank_item in_hole bs
    else (if begins_with (codes "//") bs then Some (separator (chars_len true bs))
    else (if begins_with (codes "/*") bs then comment_item in_hole bs else token_at b bs))

-- the token or separator at the front, outside of strings
unfoldable pub found_item : Bool → List ℕ → Option Item
found_item in_hole [] = None
found_item in_hole (b ∷ bs) = found_at in_hole b (b ∷ bs)
