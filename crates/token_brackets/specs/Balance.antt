-- Texts whose brackets have their partners, and what is wrong with the others.
use Rattle.std.specs.Prelude.{◌≡◌, ◌⊎◌, ℕ, List, [], ◌∷◌, ◌++◌}
use Rattle.swift_lex.specs.declared.token.Token.{Token}
use Rattle.token_brackets.specs.declared.brackets.Shape.{Shape}
use Rattle.token_brackets.specs.declared.partners.Waiting.{Waiting}
use Rattle.token_brackets.specs.Brackets.{IsPlain, Opens, Closes}

-- a balanced text (a word of Dyck's language): nothing; or a token that is no bracket, and a balanced text;
-- or a bracket, a balanced text, its partner, and a balanced text
pub data Balanced : List Token → Type 0 where
  nothing : Balanced []
  plain : {t : Token} {ts : List Token} → IsPlain t → Balanced ts → Balanced (t ∷ ts)
  pair : (s : Shape) (open_ close : Token) (inside after : List Token) → Opens s open_ → Balanced inside → Closes s close → Balanced after
      → Balanced (open_ ∷ (inside ++ close ∷ after))

-- a bracket that is left to close
abbrev pub waiting : Shape → ℕ → Waiting
waiting s line = record { shape = s; line = line }

-- a text leaves these brackets to close, the innermost first: before, between and behind them it is balanced
pub data Leaves : List Token → List Waiting → Type 0 where
  none : {ts : List Token} → Balanced ts → Leaves ts []
  more : (s : Shape) (open_ : Token) (before inside : List Token) {ws : List Waiting} → Leaves before ws → Opens s open_ → Balanced inside
      → Leaves (before ++ open_ ∷ inside) (waiting s open_.line ∷ ws)

-- the innermost bracket that is left to close has this shape
abbrev pub Awaits : Shape → List Waiting → Type 0
Awaits s [] = ⊥
Awaits s (w ∷ ws) = w.shape ≡ s

-- the first closing bracket that does not match the innermost one left to close stands in this line
pub record Mismatched (ts : List Token) (line : ℕ) : Type 0 where
  pub before : List Token
  pub left : List Waiting
  pub shape : Shape
  pub close : Token
  pub after : List Token
  pub is : ts ≡ before ++ close ∷ after
  pub leaves : Leaves before left
  pub closes : Closes shape close
  pub unmatched : Awaits shape left → ⊥
  pub stands : line ≡ close.line

-- the innermost bracket left to close at the end stands in this line
pub record Unclosed (ts : List Token) (line : ℕ) : Type 0 where
  pub innermost : Waiting
  pub others : List Waiting
  pub leaves : Leaves ts (innermost ∷ others)
  pub stands : line ≡ innermost.line

-- the text is not balanced, and that shows in this line
abbrev pub Unbalanced : List Token → ℕ → Type 0
Unbalanced ts line = Mismatched ts line ⊎ Unclosed ts line
