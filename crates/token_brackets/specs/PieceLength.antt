-- What the loop over a piece computes, token by token.
use Rattle.std.specs.Prelude.{ℕ, suc, ◌+◌, ◌-◌, false, ◌&&◌, ◌||◌, if◌then◌else◌, nat_le, nat_eq, List, [], ◌∷◌, Option, Some, None}
use Rattle.swift_lex.specs.declared.token.Token.{Token}
use Rattle.token_brackets.specs.declared.brackets.Shape.TheVariants as shape
use Rattle.token_brackets.specs.declared.brackets.Bracket.{Bracket}
use Rattle.token_brackets.specs.declared.brackets.Bracket.TheVariants as bracket
use Rattle.token_brackets.specs.declared.pieces.Within.{Within}
use Rattle.token_brackets.specs.Brackets.{bracket_of}
use Rattle.token_brackets.specs.Machine.{same_shape}
use Rattle.token_brackets.specs.Piece.{begins_import}

abbrev pub outside : Within
outside = record { depth = 0; braced = false }

-- the place behind a token, or none where the piece ends with it
abbrev pub stepped : Option Bracket → Within → Option Within
stepped None w = Some w
stepped (Some (bracket.Opens s)) w = Some (record { depth = w.depth + 1; braced = w.braced || (nat_eq w.depth 0 && same_shape s shape.Curly) })
stepped (Some (bracket.Closes s)) w = if w.braced && nat_le w.depth 1 then None else Some (record { depth = w.depth - 1; braced = w.braced })

abbrev pub len_by : Option Within → (Within → ℕ) → ℕ
len_by None f = 1
len_by (Some w) f = suc (f w)

-- how many tokens go up to the partner of the first brace that stands in no bracket, or up to the end
unfoldable pub braced_len : Within → List Token → ℕ
braced_len w [] = 0
braced_len w (t ∷ ts) = len_by (stepped (bracket_of t) w) (λ v. braced_len v ts)

unfoldable pub piece_len : List Token → ℕ
piece_len ts = if begins_import ts then 2 else braced_len outside ts
