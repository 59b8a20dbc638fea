-- A file: its pieces, and the first fault.
use Rattle.std.specs.Prelude.{◌≡◌, ◌⊎◌, ℕ, ◌+◌, List, [], ◌∷◌, length, Result, Ok, Err}
use Rattle.swift_lex.specs.declared.token.Token.{Token}
use Rattle.swift_ast.specs.declared.piece.Source.{Source}
use Rattle.swift_ast.specs.declared.piece.Piece.{Piece}
use Rattle.token_brackets.specs.Balance.{Balanced, Unbalanced}
use Rattle.token_brackets.specs.Depth.{IsShallow, TooNested}
use Rattle.token_brackets.specs.Piece.{Pieces}
use Rattle.parse_base.specs.Spans.{line_of, span_of}
use Rattle.parse_base.specs.declared.stop.Stop.{Stop}
use Rattle.parse_base.specs.declared.stop.Stop.TheVariants as stop
use Rattle.swift_parse.specs.declared.faults.ParseFault.{ParseFault}
use Rattle.swift_parse.specs.declared.faults.ParseFault.TheVariants as fault
use Rattle.swift_parse.specs.Below.{languages}
use Rattle.swift_parse.specs.Grammar.{PieceOf}

-- these tokens, all of them, spell the piece; so many tokens of the file stand up to their end
unfoldable pub SpellsPiece : ℕ → List Token → Piece → Type 0
SpellsPiece total ts x = PieceOf total (languages total) ts x []

-- each list of tokens spells its piece; so many tokens of the file stand before the first
abbrev pub SpellsPieces : ℕ → List (List Token) → List Piece → Type 0
SpellsPieces before [] [] = Unit {0}
SpellsPieces before [] (x ∷ xs) = ⊥
SpellsPieces before (p ∷ ps) [] = ⊥
SpellsPieces before (p ∷ ps) (x ∷ xs) = SpellsPiece (before + length p) p x × SpellsPieces (before + length p) ps xs

-- the first piece that spells nothing begins in this line
abbrev pub FirstBad : ℕ → List (List Token) → ℕ → Type 0
FirstBad before [] line = ⊥
FirstBad before (p ∷ ps) line =
    (((x : Piece) → SpellsPiece (before + length p) p x → ⊥) × (line ≡ line_of p))
    ⊎ ((x : Piece) × SpellsPiece (before + length p) p x × FirstBad (before + length p) ps line)

-- the tokens spell the source: they are cut into pieces, and each spells its tree
pub record Spells (ts : List Token) (source : Source) : Type 0 where
  pub pieces : List (List Token)
  pub cut : Pieces ts pieces
  pub spelled : SpellsPieces 0 pieces source.pieces
  pub span : source.span ≡ span_of (length ts) ts []

-- the text is cut into pieces, and the first that spells nothing begins in this line
pub record BadFrom (before : ℕ) (ts : List Token) (line : ℕ) : Type 0 where
  pub pieces : List (List Token)
  pub cut : Pieces ts pieces
  pub first : FirstBad before pieces line

-- the brackets are tested before the pieces are cut
pub record BracketsPass (ts : List Token) : Type 0 where
  pub balanced : Balanced ts
  pub shallow : IsShallow 64 ts

abbrev pub IsFault : List Token → ParseFault → Type 0
IsFault ts fault.OutOfMemory = Unit {0}
IsFault ts (fault.Unbalanced line) = Unbalanced ts line
IsFault ts (fault.TooNested line) = Balanced ts × TooNested 64 ts line
IsFault ts (fault.NotADeclaration line) = BracketsPass ts × BadFrom 0 ts line

-- what the text of the grammar answers for these tokens; want of memory is left open
abbrev pub IsAnswer : List Token → Result Source ParseFault → Type 0
IsAnswer ts (Ok source) = BracketsPass ts × Spells ts source
IsAnswer ts (Err e) = IsFault ts e

-- memory ran out
abbrev pub IsMemory : Result Source ParseFault → Type 0
IsMemory (Err fault.OutOfMemory) = Unit {0}
IsMemory _ = ⊥

-- the two answers are one, unless memory ran out
abbrev pub Agrees : Result Source ParseFault → Result Source ParseFault → Type 0
Agrees a b = (a ≡ b) ⊎ (IsMemory a ⊎ IsMemory b)

-- ---- what the parts of the call say

abbrev pub StopsPiece : ℕ → List Token → Stop → Type 0
StopsPiece total ts stop.Memory = Unit {0}
StopsPiece total ts stop.Refused = (x : Piece) → SpellsPiece total ts x → ⊥

-- the piece that the tokens spell, or that there is none
abbrev pub ReadsPiece : ℕ → List Token → Result Piece Stop → Type 0
ReadsPiece total ts (Ok x) = SpellsPiece total ts x
ReadsPiece total ts (Err e) = StopsPiece total ts e

-- the text is cut into pieces that spell these
pub record SpelledFrom (before : ℕ) (ts : List Token) (xs : List Piece) : Type 0 where
  pub pieces : List (List Token)
  pub cut : Pieces ts pieces
  pub spelled : SpellsPieces before pieces xs

abbrev pub IsPiecesFault : List Token → ParseFault → Type 0
IsPiecesFault ts fault.OutOfMemory = Unit {0}
IsPiecesFault ts (fault.NotADeclaration line) = BadFrom 0 ts line
IsPiecesFault ts (fault.Unbalanced line) = ⊥
IsPiecesFault ts (fault.TooNested line) = ⊥

abbrev pub IsPieces : List Token → Result (List Piece) ParseFault → Type 0
IsPieces ts (Ok xs) = SpelledFrom 0 ts xs
IsPieces ts (Err e) = IsPiecesFault ts e
