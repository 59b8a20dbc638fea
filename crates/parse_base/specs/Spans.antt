-- Where a part of the tree stands, by what is left of the tokens at its beginning and behind it.
use Rattle.std.specs.Prelude.{ℕ, ◌-◌, List, [], ◌∷◌, length}
use Rattle.swift_lex.specs.declared.token.Token.{Token}
use Rattle.swift_ast.specs.declared.span.Span.{Span}

-- the line of the first token
abbrev pub line_of : List Token → ℕ
line_of [] = 0
line_of (t ∷ ts) = t.line

-- the tokens from `ts` up to `rest` of a file of so many tokens
abbrev pub span_of : ℕ → List Token → List Token → Span
span_of total ts rest = record { first = total - length ts; last = total - length rest - 1; line = line_of ts }
