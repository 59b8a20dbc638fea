-- What spells the tokens and the separators of a source: how many bytes each takes at the front of a text.
-- After The Swift Programming Language, 'Lexical Structure'. Left out of it: names in backquotes and names
-- beyond ASCII, numbers with a point or an exponent, strings over several lines and raw strings, and operators
-- that a program makes.
use Rattle.std.specs.Prelude.{ℕ, zero, suc, ◌+◌, ◌*◌, ◌-◌, Bool, false, ◌&&◌, ◌||◌, if◌then◌else◌, List, [], ◌∷◌, ◌++◌, length, take, drop, Option, Some, None, codes, nat_eq, nat_le, nat_lt, encode_utf8}
use Rattle.std.specs.List.{starts_with, list_any}
use Rattle.std.specs.Str.{bytes_eq}
use Rattle.bstr.specs.Utf8.{decoded}

abbrev pub begins_with : List ℕ → List ℕ → Bool
begins_with word bs = starts_with nat_eq bs word

abbrev pub same : List ℕ → List ℕ → Bool
same = bytes_eq

abbrev pub is_among : List (List ℕ) → List ℕ → Bool
is_among words word = list_any (λ w. same word w) words

-- ---- names

abbrev pub is_letter : ℕ → Bool
is_letter b = (nat_le 97 b && nat_le b 122) || ((nat_le 65 b && nat_le b 90) || nat_eq b 95)

abbrev pub is_decimal : ℕ → Bool
is_decimal b = nat_le 48 b && nat_le b 57

abbrev pub is_name_byte : ℕ → Bool
is_name_byte b = is_letter b || is_decimal b

-- how many bytes from the front pass the test
abbrev pub run : (ℕ → Bool) → List ℕ → ℕ
run p [] = 0
run p (b ∷ bs) = if p b then suc (run p bs) else 0

abbrev pub declaring : List (List ℕ)
declaring = codes "struct" ∷ codes "enum" ∷ codes "extension" ∷ codes "import" ∷ codes "var" ∷ codes "let" ∷ codes "func" ∷ codes "static" ∷ []

abbrev pub opening : List (List ℕ)
opening = codes "private" ∷ codes "fileprivate" ∷ codes "internal" ∷ codes "public" ∷ codes "mutating" ∷ codes "inout" ∷ codes "some" ∷ []

abbrev pub branching : List (List ℕ)
branching = codes "if" ∷ codes "else" ∷ codes "switch" ∷ codes "case" ∷ codes "default" ∷ codes "for" ∷ codes "in" ∷ codes "while" ∷ []

abbrev pub leaving : List (List ℕ)
leaving = codes "return" ∷ codes "break" ∷ codes "continue" ∷ codes "true" ∷ codes "false" ∷ codes "nil" ∷ codes "self" ∷ []

-- the reserved words
unfoldable pub is_reserved : List ℕ → Bool
is_reserved word = is_among declaring word || (is_among opening word || (is_among branching word || is_among leaving word))

-- ---- signs, by their length

abbrev pub three : List (List ℕ)
three = codes "..<" ∷ codes "..." ∷ []

abbrev pub two : List (List ℕ)
two = codes "==" ∷ codes "!=" ∷ codes "<=" ∷ codes ">=" ∷ codes "+=" ∷ codes "-=" ∷ codes "*=" ∷ codes "/=" ∷ codes "%=" ∷ codes "&&" ∷ codes "||" ∷ codes "??" ∷ codes "->" ∷ []

abbrev pub one : List ℕ
one = codes "()[]{},;:.@#\\=<>+-*/%!?"

-- ---- numbers

-- the value of a digit of base 16 or less, and 16 for any other byte
abbrev pub digit_value : ℕ → ℕ
digit_value b = if nat_le 48 b && nat_le b 57 then b - 48 else (if nat_le 97 b && nat_le b 102 then b - 87 else (if nat_le 65 b && nat_le b 70 then b - 55 else 16))

abbrev pub is_digit : ℕ → ℕ → Bool
is_digit base b = nat_lt (digit_value b) base

abbrev pub max_int : ℕ
max_int = 9223372036854775807

-- the number that the digits mean behind others that mean n
abbrev pub value_from : ℕ → ℕ → List ℕ → ℕ
value_from base n [] = n
value_from base n (b ∷ bs) = value_from base (if nat_eq b 95 then n else base * n + digit_value b) bs

abbrev pub int_of : ℕ → List ℕ → Option ℕ
int_of base bs = if nat_le (value_from base 0 bs) max_int then Some (value_from base 0 bs) else None

-- ---- characters

-- the character at the front in UTF-8, and how many bytes it takes; none where the bytes are not UTF-8
abbrev pub with_size : Option ℕ → ℕ → Option (ℕ × ℕ)
with_size None n = None
with_size (Some c) n = Some (c, n)

unfoldable pub char_at : List ℕ → Option (ℕ × ℕ)
char_at bs = with_size (decoded bs).char (decoded bs).size

abbrev pub size_of : Option (ℕ × ℕ) → ℕ
size_of None = 0
size_of (Some m) = m.1

-- a line ends here: LF, or CR LF
abbrev pub begins_lf : List ℕ → Bool
begins_lf [] = false
begins_lf (b ∷ bs) = nat_eq b 10

abbrev pub ends_line : List ℕ → Bool
ends_line [] = false
ends_line (b ∷ bs) = nat_eq b 10 || (nat_eq b 13 && begins_lf bs)

-- the character at the front, which may be asked to be on this line
abbrev pub char_len : Bool → List ℕ → ℕ
char_len in_line bs = if in_line && ends_line bs then 0 else size_of (char_at bs)

-- how many bytes of such characters stand at the front, behind `at` others: n is at least the number of bytes
unfoldable pub chars_from : Bool → ℕ → ℕ → List ℕ → ℕ
chars_from in_line zero at bs = at
chars_from in_line (suc n) at bs = if nat_eq (char_len in_line bs) 0 then at else chars_from in_line n (at + char_len in_line bs) (drop (char_len in_line bs) bs)

abbrev pub chars_len : Bool → List ℕ → ℕ
chars_len in_line bs = chars_from in_line (length bs) 0 bs

-- ---- comments

-- a comment from its `/*` on, or nothing where it does not end; the number counts the comments that are open
abbrev pub more : ℕ → Option ℕ → Option ℕ
more k None = None
more k (Some n) = Some (n + k)

unfoldable pub comment : ℕ → List ℕ → Option ℕ
comment depth [] = None
comment depth (b ∷ []) = None
comment depth (b ∷ c ∷ bs) =
    if nat_eq b 47 && nat_eq c 42 then more 2 (comment (suc depth) bs)
    else (if nat_eq b 42 && nat_eq c 47 then (if nat_le depth 1 then Some 2 else more 2 (comment (depth - 1) bs)) else more 1 (comment depth (c ∷ bs)))

-- ---- the text of a string

-- the characters that the escapes of one letter mean
abbrev pub escape : ℕ → Option ℕ
escape c = if nat_eq c 110 then Some 10 else (if nat_eq c 116 then Some 9 else (if nat_eq c 114 then Some 13 else (if nat_eq c 48 then Some 0 else (if nat_eq c 92 then Some 92 else (if nat_eq c 34 then Some 34 else (if nat_eq c 39 then Some 39 else None))))))

abbrev pub hex_value : ℕ → List ℕ → ℕ
hex_value n [] = n
hex_value n (b ∷ bs) = hex_value (16 * n + digit_value b) bs

abbrev pub is_scalar : ℕ → Bool
is_scalar c = nat_lt c 0xD800 || (nat_le 0xE000 c && nat_lt c 0x110000)

abbrev pub hex_len : List ℕ → ℕ
hex_len bs = run (is_digit 16) bs

abbrev pub closes_hex : ℕ → List ℕ → Bool
closes_hex n bs = nat_le 1 n && (nat_le n 8 && begins_with (codes "}") (drop n bs))

abbrev pub scalar : ℕ → Option ℕ
scalar c = if is_scalar c then Some c else None

-- behind `\u{`: 1 to 8 hexadecimal digits that name a scalar value, and `}`
unfoldable pub scalar_at : List ℕ → Option (ℕ × ℕ)
scalar_at bs = if closes_hex (hex_len bs) bs then with_size (scalar (hex_value 0 (take (hex_len bs) bs))) (hex_len bs + 4) else None

abbrev pub escaped : Option ℕ → Option (ℕ × ℕ)
escaped None = None
escaped (Some m) = Some (m, 2)

-- behind a `\`
abbrev pub escape_at : List ℕ → Option (ℕ × ℕ)
escape_at [] = None
escape_at (c ∷ bs) = if begins_with (codes "u{") (c ∷ bs) then scalar_at (drop 2 (c ∷ bs)) else escaped (escape c)

-- the character that a piece of text at the front means, and how many bytes the piece takes
unfoldable pub piece : List ℕ → Option (ℕ × ℕ)
piece [] = None
piece (b ∷ bs) = if nat_eq b 34 || ends_line (b ∷ bs) then None else (if nat_eq b 92 then escape_at bs else char_at (b ∷ bs))

abbrev pub with_piece : Option (ℕ × ℕ) → List ℕ × ℕ → (ℕ → ℕ → List ℕ × ℕ) → List ℕ × ℕ
with_piece None t f = t
with_piece (Some m) t f = f m.0 m.1

-- the longest run of pieces at the front: the bytes that it means, and how many bytes it takes; n is at least the number of bytes
unfoldable pub text_from : ℕ → List ℕ → ℕ → List ℕ → List ℕ × ℕ
text_from zero found k bs = (found, k)
text_from (suc n) found k bs = with_piece (piece bs) (found, k) (λ m l. text_from n (found ++ encode_utf8 m) (k + l) (drop l bs))

abbrev pub text : List ℕ → List ℕ × ℕ
text bs = text_from (length bs) [] 0 bs
