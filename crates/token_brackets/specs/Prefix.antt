-- The balanced text at the front of a list, up to a closing bracket that is not its own.
use Rattle.std.specs.Prelude.{◌≡◌, ◌≤◌, ℕ, suc, length, take, drop, Bool, true, false, if◌then◌else◌, List, [], ◌∷◌, Option, Some, None, reverse}
use Rattle.swift_lex.specs.declared.token.Token.{Token}
use Rattle.token_brackets.specs.declared.brackets.Shape.{Shape}
use Rattle.token_brackets.specs.declared.brackets.Bracket.{Bracket}
use Rattle.token_brackets.specs.declared.brackets.Bracket.TheVariants as bracket
use Rattle.token_brackets.specs.declared.partners.Waiting.{Waiting}
use Rattle.token_brackets.specs.declared.prefix.Step.{Step}
use Rattle.token_brackets.specs.declared.prefix.Step.TheVariants as step
use Rattle.token_brackets.specs.Brackets.{bracket_of}
use Rattle.token_brackets.specs.Balance.{Balanced, waiting}
use Rattle.token_brackets.specs.Machine.{same_shape}
use Rattle.token_brackets.specs.Depth.{is_closing}

-- the text ends here, or a closing bracket stands here
abbrev pub is_stop : List Token → Bool
is_stop [] = true
is_stop (t ∷ ts) = is_closing t

-- the first n tokens are balanced, and the text ends behind them or a closing bracket stands there
pub record IsFront (ts : List Token) (n : ℕ) : Type 0 where
  pub within : n ≤ length ts
  pub balanced : Balanced (take n ts)
  pub stops : is_stop (drop n ts) ≡ true

-- what a token does to the brackets left to close: the front ends before it, or it goes on, or nothing is balanced
pub data Move : Type 0 where
  ends : Move
  goes : List Waiting → Move
  fails : Move

abbrev pub close_move : Shape → List Waiting → Move
close_move s [] = ends
close_move s (w ∷ ws) = if same_shape w.shape s then goes ws else fails

abbrev pub move : Option Bracket → ℕ → List Waiting → Move
move None line left = goes left
move (Some (bracket.Opens s)) line left = goes (waiting s line ∷ left)
move (Some (bracket.Closes s)) line left = close_move s left

abbrev pub one_more : Option ℕ → Option ℕ
one_more None = None
one_more (Some n) = Some (suc n)

abbrev pub len_by_move : Move → (List Waiting → Option ℕ) → Option ℕ
len_by_move ends f = Some 0
len_by_move (goes left) f = one_more (f left)
len_by_move fails f = None

abbrev pub at_end : List Waiting → Option ℕ
at_end [] = Some 0
at_end (w ∷ ws) = None

-- the answer behind the last token
abbrev pub end_answer : List Waiting → ℕ → Option ℕ
end_answer [] n = Some n
end_answer (w ∷ ws) n = None

-- how many tokens that is, where these brackets are left to close
unfoldable pub front_len : List Waiting → List Token → Option ℕ
front_len left [] = at_end left
front_len left (t ∷ ts) = len_by_move (move (bracket_of t) t.line left) (λ l. front_len l ts)

abbrev pub balanced_len : List Token → Option ℕ
balanced_len ts = front_len [] ts

-- a step answers what it does; the code's list has the innermost bracket last
abbrev pub Moved : Move → Step → List Waiting → Type 0
Moved m step.Ends new = m ≡ ends
Moved m step.Goes new = m ≡ goes (reverse new)
Moved m step.Fails new = m ≡ fails
