-- How deep the brackets stand.
use Rattle.std.specs.Prelude.{◌≡◌, ℕ, ◌-◌, ◌<◌, ◌≤◌, Bool, true, false, List, Option, Some, count_by, take, slice_get}
use Rattle.swift_lex.specs.declared.token.Token.{Token}
use Rattle.token_brackets.specs.declared.brackets.Bracket.{Bracket}
use Rattle.token_brackets.specs.declared.brackets.Bracket.TheVariants as bracket
use Rattle.token_brackets.specs.Brackets.{bracket_of}

abbrev pub opens_by : Option Bracket → Bool
opens_by (Some (bracket.Opens s)) = true
opens_by _ = false

abbrev pub closes_by : Option Bracket → Bool
closes_by (Some (bracket.Closes s)) = true
closes_by _ = false

abbrev pub is_opening : Token → Bool
is_opening t = opens_by (bracket_of t)

abbrev pub is_closing : Token → Bool
is_closing t = closes_by (bracket_of t)

-- within how many brackets the place behind a text stands: those that it opens, less those that it closes
abbrev pub depth : List Token → ℕ
depth before = count_by is_opening before - count_by is_closing before

-- at place i begins a bracket that stands within n others; its partner stands within as many, further behind
pub record IsDeep (n : ℕ) (ts : List Token) (i : ℕ) (t : Token) : Type 0 where
  pub at : slice_get ts i ≡ Some t
  pub opening : is_opening t ≡ true
  pub deep : n ≤ depth (take i ts)

-- no bracket of the text stands within n others
abbrev pub IsShallow : ℕ → List Token → Type 0
IsShallow n ts = (i : ℕ) (t : Token) → IsDeep n ts i t → ⊥

-- the first bracket that stands within n others stands in this line
pub record TooNested (n : ℕ) (ts : List Token) (line : ℕ) : Type 0 where
  pub place : ℕ
  pub first : Token
  pub deep : IsDeep n ts place first
  pub none_before : (k : ℕ) (t : Token) → k < place → IsDeep n ts k t → ⊥
  pub stands : line ≡ first.line
