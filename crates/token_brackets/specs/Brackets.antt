-- Which tokens are brackets.
use Rattle.std.specs.Prelude.{◌≡◌, ℕ, Bool, true, false, if◌then◌else◌, List, Option, Some, None, codes}
use Rattle.std.specs.Str.{bytes_eq}
use Rattle.swift_lex.specs.declared.token.Token.{Token}
use Rattle.swift_lex.specs.declared.token.TokenKind.{TokenKind}
use Rattle.swift_lex.specs.declared.token.TokenKind.TheVariants as kind
use Rattle.token_brackets.specs.declared.brackets.Shape.{Shape}
use Rattle.token_brackets.specs.declared.brackets.Shape.TheVariants as shape
use Rattle.token_brackets.specs.declared.brackets.Bracket.{Bracket}
use Rattle.token_brackets.specs.declared.brackets.Bracket.TheVariants as bracket

-- the bracket that a sign is
abbrev pub sign_bracket : List ℕ → Option Bracket
sign_bracket w =
    if bytes_eq w (codes "(") then Some (bracket.Opens shape.Round)
    else (if bytes_eq w (codes ")") then Some (bracket.Closes shape.Round)
    else (if bytes_eq w (codes "[") then Some (bracket.Opens shape.Square)
    else (if bytes_eq w (codes "]") then Some (bracket.Closes shape.Square)
    else (if bytes_eq w (codes "{") then Some (bracket.Opens shape.Curly)
    else (if bytes_eq w (codes "}") then Some (bracket.Closes shape.Curly) else None)))))

abbrev pub kind_bracket : TokenKind → Option Bracket
kind_bracket (kind.Sign w) = sign_bracket w
kind_bracket kind.StrHole = Some (bracket.Opens shape.Round)
kind_bracket _ = None

-- the bracket that a token is: one of the six signs, or the token that begins a hole of a string, whose partner is a round one
unfoldable pub bracket_of : Token → Option Bracket
bracket_of t = kind_bracket t.kind

abbrev pub IsPlain : Token → Type 0
IsPlain t = bracket_of t ≡ None

abbrev pub Opens : Shape → Token → Type 0
Opens s t = bracket_of t ≡ Some (bracket.Opens s)

abbrev pub Closes : Shape → Token → Type 0
Closes s t = bracket_of t ≡ Some (bracket.Closes s)

abbrev pub import_by : TokenKind → Bool
import_by (kind.Reserved w) = bytes_eq w (codes "import")
import_by _ = false

-- the word `import`
abbrev pub is_import : Token → Bool
is_import t = import_by t.kind

abbrev pub name_by : TokenKind → Bool
name_by (kind.Name w) = true
name_by _ = false

abbrev pub is_name : Token → Bool
is_name t = name_by t.kind
