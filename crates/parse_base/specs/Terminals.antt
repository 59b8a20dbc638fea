-- Terminals: what one token is read as, with the rules on gaps.
use Rattle.std.specs.Prelude.{ℕ, Bool, true, false, not, ◌&&◌, if◌then◌else◌, List, [], ◌∷◌, Option, Some, None, codes}
use Rattle.swift_lex.specs.declared.token.Token.{Token}
use Rattle.swift_lex.specs.declared.token.TokenKind.{TokenKind}
use Rattle.swift_lex.specs.declared.token.TokenKind.TheVariants as kind
use Rattle.parse_base.specs.Tokens.{is_sign, is_reserved, attribute_of, directive_of, opens_string, opens_hole, closes_string, is_joined, is_on_new_line}
use Rattle.parse_base.specs.Parser.{Terminal, starts}

abbrev pub only_if : {A : Type 0} → Bool → A → Option A
only_if b x = if b then Some x else None

-- the test comes second, so that a token that is another sign needs none
abbrev pub when : {A : Type 0} → Option A → Bool → Option A
when None b = None
when (Some x) b = only_if b x

-- this sign
abbrev pub a_sign : List ℕ → Terminal (Unit {0})
a_sign w t rest = only_if (is_sign w t) tt

-- this reserved word
abbrev pub a_word : List ℕ → Terminal (Unit {0})
a_word w t rest = only_if (is_reserved w t) tt

-- this attribute, as `@main`
abbrev pub an_attribute : List ℕ → Terminal (Unit {0})
an_attribute w t rest = only_if (attribute_of w t.kind) tt

-- this directive, as `#Preview`
abbrev pub a_directive : List ℕ → Terminal (Unit {0})
a_directive w t rest = only_if (directive_of w t.kind) tt

abbrev pub name_by : TokenKind → Option (List ℕ)
name_by (kind.Name w) = Some w
name_by _ = None

-- a name, by its spelling
abbrev pub a_name : Terminal (List ℕ)
a_name t rest = name_by t.kind

abbrev pub text_by : TokenKind → Option (List ℕ)
text_by (kind.StrText w) = Some w
text_by _ = None

-- a run of text in a string, by the bytes that it means
abbrev pub a_text : Terminal (List ℕ)
a_text t rest = text_by t.kind

-- the `"` that begins a string
abbrev pub string_open : Terminal (Unit {0})
string_open t rest = only_if (opens_string t.kind) tt

-- `\(` in a string
abbrev pub hole_open : Terminal (Unit {0})
hole_open t rest = only_if (opens_hole t.kind) tt

-- the `"` that ends a string
abbrev pub string_close : Terminal (Unit {0})
string_close t rest = only_if (closes_string t.kind) tt

-- a sign that goes on with what stands before it, so not on a new line
abbrev pub on_line : List ℕ → Terminal (Unit {0})
on_line w t rest = only_if (is_sign w t && not (is_on_new_line t)) tt

-- nothing stands between this place and the next token
abbrev pub joined_next : List Token → Bool
joined_next [] = false
joined_next (t ∷ ts) = is_joined t

abbrev pub same : Bool → Bool → Bool
same true b = b
same false b = not b

-- gaps on both sides or on none
abbrev pub is_even : Token → List Token → Bool
is_even t rest = same (is_joined t) (joined_next rest)

-- ---- tests of two tokens

-- this sign stands second
abbrev pub sign_next : List ℕ → List Token → Bool
sign_next w [] = false
sign_next w (t ∷ ts) = starts (a_sign w) ts

-- this reserved word stands second
abbrev pub word_next : List ℕ → List Token → Bool
word_next w [] = false
word_next w (t ∷ ts) = starts (a_word w) ts

-- a name and ":"
unfoldable pub label_ahead : List Token → Bool
label_ahead ts = starts a_name ts && sign_next (codes ":") ts
