-- The paragraphs of a text, after its control characters are taken out.
use Rattle.std.specs.Prelude.{ℕ, ◌==◌, nat_lt, nat_le, Bool, false, List, [], ◌∷◌, ◌++◌, ◌&&◌, ◌||◌, map, chars, encode_utf8_all, if◌then◌else◌}

-- the scalars that a terminal would obey and not print: those below the space, and from U+007F to U+009F
abbrev pub is_control : ℕ → Bool
is_control c = nat_lt c 32 || (nat_le 127 c && nat_le c 159)

-- a question mark stands for a control
abbrev pub printable : ℕ → ℕ
printable c = if is_control c then 63 else c

abbrev pub begins_with_feed : List ℕ → Bool
begins_with_feed [] = false
begins_with_feed (c ∷ cs) = c == 10

-- a carriage return before a line feed is dropped, a line feed stays, and every other control is replaced
abbrev pub cleaned : List ℕ → List ℕ
cleaned [] = []
cleaned (c ∷ cs) =
    if c == 13 && begins_with_feed cs
    then cleaned cs
    else (if c == 10 then 10 else printable c) ∷ cleaned cs

-- xs stands at the head of the first part
abbrev pub put_before : List ℕ → List (List ℕ) → List (List ℕ)
put_before xs [] = xs ∷ []
put_before xs (part ∷ parts) = (xs ++ part) ∷ parts

-- the parts round the line feeds: one more than there are feeds
abbrev pub parts_of : List ℕ → List (List ℕ)
parts_of [] = [] ∷ []
parts_of (c ∷ cs) = if c == 10 then [] ∷ parts_of cs else put_before (c ∷ []) (parts_of cs)

-- the paragraphs of a text, each as its bytes in UTF-8
abbrev pub paragraphs : List ℕ → List (List ℕ)
paragraphs text = map encode_utf8_all (parts_of (cleaned (chars text)))

-- a name in brackets on one line, where a line feed is a control too, as its bytes in UTF-8
abbrev pub bracketed : List ℕ → List ℕ
bracketed name = 91 ∷ [] ++ encode_utf8_all (map printable (cleaned (chars name))) ++ 93 ∷ []
