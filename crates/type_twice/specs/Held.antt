-- The same by maps of the names that stand already.
use Rattle.std.specs.Prelude.{◌≡◌, ℕ, Bool, true, false, not, ◌&&◌, ◌||◌, List, [], ◌∷◌, Option, Some, None, is_some, codes, if◌then◌else◌}
use Rattle.std.specs.Option.{option_or}
use Rattle.std.specs.Str.{bytes_eq}
use Rattle.std.specs.FinMap as fin
use Rattle.swift_ast.specs.declared.piece.Piece.{Piece}
use Rattle.swift_ast.specs.declared.piece.PieceForm.{PieceForm}
use Rattle.swift_ast.specs.declared.piece.PieceForm.TheVariants as piece
use Rattle.swift_ast.specs.declared.piece.EnumPiece.{EnumPiece}
use Rattle.member_forms.specs.Whole.{is_named}
use Rattle.name_map.specs.Names.{Places, no_names}
use Rattle.type_twice.specs.declared.names.Named.{Named}
use Rattle.type_twice.specs.declared.twice.Seen.{Seen}
use Rattle.type_twice.specs.Twice.{is_built_in, line_if, heading, member_names, key_names}

abbrev pub is_held : Places → List ℕ → Bool
is_held m w = is_some (fin.get m w) && not (bytes_eq w (codes "_"))

abbrev pub put : Places → List ℕ → Places
put m w = fin.insert m w 0

abbrev pub first_held : Places → List Named → Option ℕ
first_held m [] = None
first_held m (n ∷ ns) = if is_held m n.name then Some n.line else first_held (put m n.name) ns

abbrev pub put_all : Places → List Named → Places
put_all m [] = m
put_all m (n ∷ ns) = put_all (put m n.name) ns

abbrev pub given_enum : EnumPiece → Places
given_enum p = if is_named p.names (codes "CaseIterable") then put no_names (codes "allCases") else no_names

abbrev pub given_held : PieceForm → Places
given_held (piece.Enum p) = given_enum p
given_held _ = no_names

abbrev pub is_second_heading : Seen → Option (List ℕ × Bool) → Bool
is_second_heading s None = false
is_second_heading s (Some h) = (h.1 && s.has_main) || is_built_in h.0 || is_held s.declared h.0

abbrev pub with_heading : Seen → Option (List ℕ × Bool) → Seen
with_heading s None = s
with_heading s (Some h) = record { declared = put s.declared h.0; keys = s.keys; has_main = s.has_main || h.1 }

abbrev pub with_keys : Seen → List Named → Seen
with_keys s ns = record { declared = s.declared; keys = put_all s.keys ns; has_main = s.has_main }

-- what stands once a piece is passed
unfoldable pub passed : Seen → Piece → Seen
passed s p = with_keys (with_heading s (heading p)) (key_names p)

unfoldable pub second_seen : Seen → Piece → Option ℕ
second_seen s p =
    option_or (line_if (is_second_heading s (heading p)) p.span.line)
    (option_or (first_held (given_held p.form) (member_names p)) (first_held s.keys (key_names p)))

abbrev pub twice_seen : Seen → List Piece → Option ℕ
twice_seen s [] = None
twice_seen s (p ∷ ps) = option_or (second_seen s p) (twice_seen (passed s p) ps)

-- the names that stand before the program
abbrev pub start : Seen
start = record { declared = no_names; keys = put no_names (codes "isEnabled"); has_main = false }
