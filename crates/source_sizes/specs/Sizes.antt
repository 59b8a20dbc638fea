-- How much a file declares at most.
use Rattle.std.specs.Prelude.{◌≡◌, ℕ, ◌+◌, ◌≤◌, List, [], ◌∷◌, length, Ok, if◌then◌else◌}
use Rattle.swift_lex.specs.declared.token.Token.{Token}
use Rattle.swift_lex.specs.Tokens.{tokens}
use Rattle.swift_ast.specs.declared.piece.Source.{Source}
use Rattle.swift_ast.specs.declared.piece.Piece.{Piece}
use Rattle.swift_parse.specs.File.{Spells}
use Rattle.type_table.specs.Heads.{declares}
use Rattle.source_parts.specs.Parts.{inner_parts}

-- four for a declaration, and one for each member, case and environment key that stands in a piece
abbrev pub weight : Piece → ℕ
weight p = (if declares p then 4 else 0) + length (inner_parts p.form)

abbrev pub weights : List Piece → ℕ
weights [] = 0
weights (p ∷ ps) = weight p + weights ps

-- all that is declared weighs no more than there are tokens
abbrev pub DeclarationsAreFew : Type 0
DeclarationsAreFew = (ts : List Token) (source : Source) → Spells ts source → weights source.pieces ≤ length ts

abbrev pub TokensAreFew : Type 0
TokensAreFew = (bytes : List ℕ) (ts : List Token) → tokens bytes ≡ Ok ts → length ts ≤ length bytes + 1
