-- What the loop over the brackets computes, token by token.
use Rattle.std.specs.Prelude.{◌≡◌, ℕ, Bool, true, false, if◌then◌else◌, List, [], ◌∷◌, Option, Some, None, Result, Ok, Err, reverse}
use Rattle.swift_lex.specs.declared.token.Token.{Token}
use Rattle.token_brackets.specs.declared.brackets.Shape.{Shape}
use Rattle.token_brackets.specs.declared.brackets.Shape.TheVariants as shape
use Rattle.token_brackets.specs.declared.brackets.Bracket.{Bracket}
use Rattle.token_brackets.specs.declared.brackets.Bracket.TheVariants as bracket
use Rattle.token_brackets.specs.declared.partners.Waiting.{Waiting}
use Rattle.token_brackets.specs.Brackets.{bracket_of}
use Rattle.token_brackets.specs.Balance.{waiting}

abbrev pub same_shape : Shape → Shape → Bool
same_shape shape.Round shape.Round = true
same_shape shape.Square shape.Square = true
same_shape shape.Curly shape.Curly = true
same_shape _ _ = false

-- what a closing bracket leaves, or none where it does not match the innermost one
abbrev pub closed : Shape → List Waiting → Option (List Waiting)
closed s [] = None
closed s (w ∷ ws) = if same_shape w.shape s then Some ws else None

abbrev pub step : Option Bracket → ℕ → List Waiting → Option (List Waiting)
step None line left = Some left
step (Some (bracket.Opens s)) line left = Some (waiting s line ∷ left)
step (Some (bracket.Closes s)) line left = closed s left

abbrev pub walk_by : Option (List Waiting) → ℕ → (List Waiting → Result (List Waiting) ℕ) → Result (List Waiting) ℕ
walk_by None line f = Err line
walk_by (Some left) line f = f left

-- the brackets left to close, the innermost first, or the line of the first one that does not match
unfoldable pub walk : List Waiting → List Token → Result (List Waiting) ℕ
walk left [] = Ok left
walk left (t ∷ ts) = walk_by (step (bracket_of t) t.line left) t.line (λ l. walk l ts)

abbrev pub innermost_line : List Waiting → Option ℕ
innermost_line [] = None
innermost_line (w ∷ ws) = Some w.line

abbrev pub fault_line : Result (List Waiting) ℕ → Option ℕ
fault_line (Err line) = Some line
fault_line (Ok left) = innermost_line left

-- a step answers whether it matched; the code's list has the innermost bracket last
abbrev pub Stepped : Option (List Waiting) → Bool → List Waiting → Type 0
Stepped o true new = o ≡ Some (reverse new)
Stepped o false new = o ≡ None
