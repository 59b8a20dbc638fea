-- What stands at the front of a text: a token or a separator, with its bytes counted, or neither.
use Rattle.std.specs.Prelude.{ℕ, zero, suc, Bool, true, false, not, ◌&&◌, ◌||◌, if◌then◌else◌, List, [], ◌∷◌, take, Option, Some, None, codes, nat_eq}
use Rattle.swift_lex.specs.declared.token.TokenKind.{TokenKind}
use Rattle.swift_lex.specs.declared.token.TokenKind.TheVariants as kind
use Rattle.swift_lex.specs.declared.item.Item.{Item}
use Rattle.swift_lex.specs.Spellings.{begins_with, same, ends_line, chars_len, comment, text}
use Rattle.swift_lex.specs.Words.{is_word, meant, longest}
use Rattle.swift_lex.specs.Brackets.{is_empty, begun, ended}

abbrev pub separator : ℕ → Item
separator n = record { len = n; token = None }

abbrev pub as_token : ℕ → TokenKind → Item
as_token n k = record { len = n; token = Some k }

abbrev pub when_some : {A : Type 0} → (A → Item) → Option A → Option Item
when_some f None = None
when_some f (Some x) = Some (f x)

-- ---- outside the text of a string

abbrev pub is_blank : ℕ → Bool
is_blank b = nat_eq b 32 || nat_eq b 9 || nat_eq b 13 || nat_eq b 10

-- no line ends within a hole
abbrev pub blank_item : Bool → List ℕ → Option Item
blank_item in_hole bs = if in_hole && ends_line bs then None else Some (separator 1)

-- a comment that ends is a separator as far as its bytes are UTF-8 and, within a hole, as far as the line
abbrev pub comment_item : Bool → List ℕ → Option Item
comment_item in_hole bs = when_some (λ n. separator (chars_len in_hole (take n bs))) (comment 0 bs)

-- the word of n bytes at the front; none for a number out of range
abbrev pub by_len : ℕ → List ℕ → Option Item
by_len zero bs = None
by_len (suc n) bs = when_some (λ k. as_token (suc n) k) (meant (take (suc n) bs))

-- the longest word
unfoldable pub word_token : List ℕ → Option Item
word_token bs = by_len (longest is_word bs) bs

abbrev pub code_at : Bool → ℕ → List ℕ → Option Item
code_at in_hole b bs =
    if is_blank b then blank_item in_hole bs
    else (if begins_with (codes "//") bs then Some (separator (chars_len true bs))
    else (if begins_with (codes "/*") bs then comment_item in_hole bs else word_token bs))

unfoldable pub code_item : Bool → List ℕ → Option Item
code_item in_hole [] = None
code_item in_hole (b ∷ bs) = code_at in_hole b (b ∷ bs)

-- ---- in the text of a string

abbrev pub text_run : List ℕ × ℕ → Option Item
text_run t = if nat_eq t.1 0 then None else Some (as_token t.1 (kind.StrText t.0))

abbrev pub text_at : ℕ → List ℕ → Option Item
text_at b bs =
    if nat_eq b 34 then Some (as_token 1 kind.StrClose)
    else (if begins_with (codes "\\(") bs then Some (as_token 2 kind.StrHole) else text_run (text bs))

unfoldable pub text_item : List ℕ → Option Item
text_item [] = None
text_item (b ∷ bs) = text_at b (b ∷ bs)

-- ---- at a place with these brackets open, in the text of a string or outside of it

unfoldable pub item : List Bool → Bool → List ℕ → Option Item
item open_ in_text bs = if in_text then text_item bs else code_item (not (is_empty open_)) bs

-- what is open behind a sign
abbrev pub after_sign : List ℕ → List Bool → Bool → List Bool × Bool
after_sign w o t = if same w (codes "(") then (begun o, t) else (if same w (codes ")") then ended o else (o, t))

-- what is open behind a token, and whether the text of a string goes on
abbrev pub after : TokenKind → List Bool → Bool → List Bool × Bool
after kind.StrOpen o t = (o, true)
after kind.StrClose o t = (o, false)
after kind.StrHole o t = (true ∷ o, false)
after (kind.Sign w) o t = after_sign w o t
after k o t = (o, t)

unfoldable pub passed : Option TokenKind → List Bool → Bool → List Bool × Bool
passed None o t = (o, t)
passed (Some k) o t = after k o t
