-- What a token is seen as.
use Rattle.std.specs.Prelude.{ℕ, Bool, true, false, List}
use Rattle.std.specs.Str.{bytes_eq}
use Rattle.swift_lex.specs.declared.token.Token.{Token}
use Rattle.swift_lex.specs.declared.token.TokenKind.{TokenKind}
use Rattle.swift_lex.specs.declared.token.TokenKind.TheVariants as kind
use Rattle.swift_lex.specs.declared.token.Gap.{Gap}
use Rattle.swift_lex.specs.declared.token.Gap.TheVariants as gap

abbrev pub sign_of : List ℕ → TokenKind → Bool
sign_of sign (kind.Sign word) = bytes_eq word sign
sign_of sign _ = false

-- this sign
abbrev pub is_sign : List ℕ → Token → Bool
is_sign sign t = sign_of sign t.kind

abbrev pub reserved_of : List ℕ → TokenKind → Bool
reserved_of word (kind.Reserved found) = bytes_eq found word
reserved_of word _ = false

-- this reserved word
abbrev pub is_reserved : List ℕ → Token → Bool
is_reserved word t = reserved_of word t.kind

abbrev pub attribute_of : List ℕ → TokenKind → Bool
attribute_of word (kind.AtName found) = bytes_eq found word
attribute_of word _ = false

abbrev pub directive_of : List ℕ → TokenKind → Bool
directive_of word (kind.HashName found) = bytes_eq found word
directive_of word _ = false

abbrev pub opens_string : TokenKind → Bool
opens_string kind.StrOpen = true
opens_string _ = false

abbrev pub opens_hole : TokenKind → Bool
opens_hole kind.StrHole = true
opens_hole _ = false

abbrev pub closes_string : TokenKind → Bool
closes_string kind.StrClose = true
closes_string _ = false

abbrev pub joined_by : Gap → Bool
joined_by gap.Joined = true
joined_by _ = false

-- nothing stands between it and the token before
abbrev pub is_joined : Token → Bool
is_joined t = joined_by t.gap

abbrev pub new_line_by : Gap → Bool
new_line_by gap.NewLine = true
new_line_by _ = false

-- a line end stands between it and the token before
abbrev pub is_on_new_line : Token → Bool
is_on_new_line t = new_line_by t.gap
