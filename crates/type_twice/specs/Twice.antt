-- What is declared twice: a name of a declaration, of a member, of a key, or the main program.
-- After The Swift Programming Language, 'Declarations', where a name is declared once in its scope.
use Rattle.std.specs.Prelude.{◌≡◌, ℕ, Bool, true, false, not, ◌&&◌, ◌||◌, List, [], ◌∷◌, ◌++◌, Option, Some, None, map, codes, if◌then◌else◌}
use Rattle.std.specs.List.{list_any, flat_map}
use Rattle.std.specs.Option.{option_or}
use Rattle.std.specs.Str.{bytes_eq}
use Rattle.swift_ast.specs.declared.piece.Source.{Source}
use Rattle.swift_ast.specs.declared.piece.Piece.{Piece}
use Rattle.swift_ast.specs.declared.piece.PieceForm.{PieceForm}
use Rattle.swift_ast.specs.declared.piece.PieceForm.TheVariants as piece
use Rattle.swift_ast.specs.declared.piece.StructPiece.{StructPiece}
use Rattle.swift_ast.specs.declared.piece.StructBody.{StructBody}
use Rattle.swift_ast.specs.declared.piece.StructBody.TheVariants.{Members, LeftAside}
use Rattle.swift_ast.specs.declared.piece.EnumPiece.{EnumPiece}
use Rattle.swift_ast.specs.declared.piece.EnumItem.{EnumItem}
use Rattle.swift_ast.specs.declared.piece.EnumItem.TheVariants as item
use Rattle.swift_ast.specs.declared.piece.CaseName.{CaseName}
use Rattle.swift_ast.specs.declared.piece.Member.{Member}
use Rattle.swift_ast.specs.declared.piece.Entry.{Entry}
use Rattle.name_map.specs.Names.{same_name}
use Rattle.member_forms.specs.Whole.{member_name, is_named}
use Rattle.type_twice.specs.declared.names.Named.{Named}

-- the types that are built in
abbrev pub is_built_in_type : List ℕ → Bool
is_built_in_type w = bytes_eq w (codes "Int") || bytes_eq w (codes "Bool") || bytes_eq w (codes "String")

-- the protocols
abbrev pub is_protocol : List ℕ → Bool
is_protocol w =
    bytes_eq w (codes "View") || bytes_eq w (codes "App") || bytes_eq w (codes "Scene") || bytes_eq w (codes "PreferenceKey")
    || bytes_eq w (codes "Identifiable") || bytes_eq w (codes "Equatable") || bytes_eq w (codes "Hashable") || bytes_eq w (codes "CaseIterable")
    || bytes_eq w (codes "PreviewProvider")

-- the views with a content
abbrev pub is_container : List ℕ → Bool
is_container w =
    bytes_eq w (codes "Button") || bytes_eq w (codes "Toggle") || bytes_eq w (codes "VStack") || bytes_eq w (codes "HStack")
    || bytes_eq w (codes "ZStack") || bytes_eq w (codes "Group") || bytes_eq w (codes "ForEach") || bytes_eq w (codes "WindowGroup")

-- the other views
abbrev pub is_leaf : List ℕ → Bool
is_leaf w =
    bytes_eq w (codes "Text") || bytes_eq w (codes "Image") || bytes_eq w (codes "Spacer") || bytes_eq w (codes "Rectangle") || bytes_eq w (codes "EmptyView")

-- the functions, and what alignments and environment keys belong to
abbrev pub is_built_in_word : List ℕ → Bool
is_built_in_word w =
    bytes_eq w (codes "abs") || bytes_eq w (codes "min") || bytes_eq w (codes "max")
    || bytes_eq w (codes "EnvironmentValues") || bytes_eq w (codes "HorizontalAlignment") || bytes_eq w (codes "VerticalAlignment")

-- a name that a program may not declare
abbrev pub is_built_in : List ℕ → Bool
is_built_in w = is_built_in_type w || is_protocol w || is_container w || is_leaf w || is_built_in_word w

-- the name stands among these; `_` names nothing, so it may stand several times
abbrev pub stands : List (List ℕ) → List ℕ → Bool
stands names w = list_any (same_name w) names && not (bytes_eq w (codes "_"))

-- the line of the first name that stands already, among those before or in the list itself
abbrev pub first_repeat : List (List ℕ) → List Named → Option ℕ
first_repeat before [] = None
first_repeat before (n ∷ ns) = if stands before n.name then Some n.line else first_repeat (before ++ n.name ∷ []) ns

abbrev pub made_named : List ℕ → ℕ → Named
made_named w line = record { name = w; line = line }

abbrev pub named_member : Member → Named
named_member m = record { name = member_name m; line = m.span.line }

abbrev pub named_case : CaseName → Named
named_case c = record { name = c.name; line = c.span.line }

abbrev pub named_entry : Entry → Named
named_entry e = record { name = e.name; line = e.span.line }

abbrev pub item_names : EnumItem → List Named
item_names (item.Cases cs) = map named_case cs
item_names (item.Member m) = named_member m ∷ []

-- a `CaseIterable` enum has a static property that it does not write
abbrev pub given_names : EnumPiece → List (List ℕ)
given_names p = if is_named p.names (codes "CaseIterable") then codes "allCases" ∷ [] else []

abbrev pub struct_names : StructBody → List Named
struct_names LeftAside = []
struct_names (Members ms) = map named_member ms

abbrev pub member_names_at : PieceForm → List Named
member_names_at (piece.Struct p) = struct_names p.body
member_names_at (piece.Enum p) = flat_map item_names p.items
member_names_at _ = []

-- the names of the members of a piece, with their lines
abbrev pub member_names : Piece → List Named
member_names p = member_names_at p.form

abbrev pub given_at : PieceForm → List (List ℕ)
given_at (piece.Enum p) = given_names p
given_at _ = []

abbrev pub key_names_at : PieceForm → List Named
key_names_at (piece.Environment es) = map named_entry es
key_names_at _ = []

-- the names of the keys of a piece, with their lines
abbrev pub key_names : Piece → List Named
key_names p = key_names_at p.form

abbrev pub struct_heading : StructPiece → StructBody → Option (List ℕ × Bool)
struct_heading p LeftAside = None
struct_heading p (Members ms) = Some (p.name, p.is_main)

abbrev pub heading_at : PieceForm → Option (List ℕ × Bool)
heading_at (piece.Struct p) = struct_heading p p.body
heading_at (piece.Enum p) = Some (p.name, false)
heading_at _ = None

-- the name of a declaration, and whether `@main` stands before it; what is left aside declares nothing
abbrev pub heading : Piece → Option (List ℕ × Bool)
heading p = heading_at p.form

abbrev pub name_in : Option (List ℕ × Bool) → List (List ℕ)
name_in None = []
name_in (Some h) = h.0 ∷ []

abbrev pub main_in : Option (List ℕ × Bool) → Bool
main_in None = false
main_in (Some h) = h.1

abbrev pub declared_names : Piece → List (List ℕ)
declared_names p = name_in (heading p)

abbrev pub is_main : Piece → Bool
is_main p = main_in (heading p)

abbrev pub name_of_named : Named → List ℕ
name_of_named n = n.name

abbrev pub keys_of : Piece → List (List ℕ)
keys_of p = map name_of_named (key_names p)

-- a second `@main`, a name that is built in, or the name of a declaration that stands before
abbrev pub repeats_heading : List Piece → Option (List ℕ × Bool) → Bool
repeats_heading before None = false
repeats_heading before (Some h) = (h.1 && list_any is_main before) || is_built_in h.0 || stands (flat_map declared_names before) h.0

abbrev pub line_if : Bool → ℕ → Option ℕ
line_if b line = if b then Some line else None

-- the first line of a piece on which something is declared that stands already: the piece itself, a member or a key
unfoldable pub second : List Piece → Piece → Option ℕ
second before p =
    option_or (line_if (repeats_heading before (heading p)) p.span.line)
    (option_or (first_repeat (given_at p.form) (member_names p))
    (first_repeat (codes "isEnabled" ∷ flat_map keys_of before) (key_names p)))

abbrev pub twice_from : List Piece → List Piece → Option ℕ
twice_from before [] = None
twice_from before (p ∷ ps) = option_or (second before p) (twice_from (before ++ p ∷ []) ps)

-- the line of the first declaration in text order that is a second one
unfoldable pub twice : Source → Option ℕ
twice source = twice_from [] source.pieces
