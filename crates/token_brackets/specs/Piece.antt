-- Where the pieces of a file end.
use Rattle.std.specs.Prelude.{◌≡◌, Bool, true, false, ◌&&◌, List, [], ◌∷◌, ◌++◌}
use Rattle.swift_lex.specs.declared.token.Token.{Token}
use Rattle.token_brackets.specs.declared.brackets.Shape.{Shape}
use Rattle.token_brackets.specs.declared.brackets.Shape.TheVariants as shape
use Rattle.token_brackets.specs.Brackets.{IsPlain, Opens, Closes, is_import, is_name}
use Rattle.token_brackets.specs.Balance.{Balanced}

-- a balanced text with no `{` but within other brackets
pub data Headed : List Token → Type 0 where
  nothing : Headed []
  plain : {t : Token} {ts : List Token} → IsPlain t → Headed ts → Headed (t ∷ ts)
  pair : (s : Shape) (open_ close : Token) (inside after : List Token) → (s ≡ shape.Curly → ⊥) → Opens s open_ → Balanced inside → Closes s close → Headed after
      → Headed (open_ ∷ (inside ++ close ∷ after))

-- the word `import` and a name
abbrev pub begins_import : List Token → Bool
begins_import (first ∷ second ∷ rest) = is_import first && is_name second
begins_import _ = false

-- the first piece of a text, and the rest: an import up to its name; else up to the partner of the first `{` that
-- stands in no bracket; else all of the text
pub data FirstPiece : List Token → List Token → Type 0 where
  imports : {word name : Token} {rest : List Token} → begins_import (word ∷ name ∷ []) ≡ true → FirstPiece (word ∷ name ∷ []) rest
  braced : (head inside : List Token) {rest : List Token} (open_ close : Token) → begins_import (head ++ open_ ∷ (inside ++ close ∷ [])) ≡ false
      → Headed head → Opens shape.Curly open_ → Balanced inside → Closes shape.Curly close → FirstPiece (head ++ open_ ∷ (inside ++ close ∷ [])) rest
  unended : {ts : List Token} → begins_import ts ≡ false → Headed ts → FirstPiece ts []

-- a text, cut into its pieces
pub data Pieces : List Token → List (List Token) → Type 0 where
  none : Pieces [] []
  more : (first : Token) (piece rest : List Token) {pieces : List (List Token)} → FirstPiece (first ∷ piece) rest → Pieces rest pieces
      → Pieces (first ∷ (piece ++ rest)) ((first ∷ piece) ∷ pieces)
