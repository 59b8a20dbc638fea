-- The declarations of a source file by their names and kinds, before the types of their members are known.
use Rattle.std.specs.Prelude.{◌≡◌, ℕ, suc, ◌+◌, Bool, true, false, List, [], ◌∷◌, ◌++◌, Option, Some, None, length, take, map, codes, if◌then◌else◌}
use Rattle.std.specs.List.{count_by}
use Rattle.swift_ast.specs.declared.piece.Source.{Source}
use Rattle.swift_ast.specs.declared.piece.Piece.{Piece}
use Rattle.swift_ast.specs.declared.piece.PieceForm.{PieceForm}
use Rattle.swift_ast.specs.declared.piece.PieceForm.TheVariants as piece
use Rattle.swift_ast.specs.declared.piece.StructPiece.{StructPiece}
use Rattle.swift_ast.specs.declared.piece.StructBody.{StructBody}
use Rattle.swift_ast.specs.declared.piece.StructBody.TheVariants.{Members, LeftAside}
use Rattle.swift_ast.specs.declared.piece.EnumPiece.{EnumPiece}
use Rattle.swift_ast.specs.declared.piece.Entry.{Entry}
use Rattle.swift_core.specs.declared.table.Table.{Table}
use Rattle.swift_core.specs.declared.table.Declaration.{Declaration}
use Rattle.swift_core.specs.declared.table.Kind.{Kind}
use Rattle.swift_core.specs.declared.table.Kind.TheVariants as kind
use Rattle.name_map.specs.Names.{no_names}
use Rattle.member_forms.specs.declared.role.Sort.{Sort}
use Rattle.member_forms.specs.declared.role.Sort.TheVariants as sort
use Rattle.member_forms.specs.Whole.{is_named, sort_of}
use Rattle.type_table.specs.Along.{narrow, along, first_places}
use Rattle.type_table.specs.Signatures.{case_count}

-- the entries of a piece that extends the environment
abbrev pub entries_at : PieceForm → List Entry
entries_at (piece.Environment es) = es
entries_at _ = []

abbrev pub entries_of : Piece → List Entry
entries_of p = entries_at p.form

abbrev pub declares_struct : StructBody → Bool
declares_struct LeftAside = false
declares_struct (Members ms) = true

abbrev pub declares_at : PieceForm → Bool
declares_at (piece.Struct p) = declares_struct p.body
declares_at (piece.Enum p) = true
declares_at _ = false

-- a struct or an enum is a declaration; what is left aside, and every other piece, declares nothing
abbrev pub declares : Piece → Bool
declares p = declares_at p.form

-- the number of the next declaration
abbrev pub next_declaration : List Piece → ℕ
next_declaration before = narrow (count_by declares before)

abbrev pub is_key_sort : Sort → Bool
is_key_sort sort.Key = true
is_key_sort _ = false

abbrev pub is_key_struct : StructBody → List (List ℕ) → Bool
is_key_struct LeftAside names = false
is_key_struct (Members ms) names = is_key_sort (sort_of names)

abbrev pub is_key_at : PieceForm → Bool
is_key_at (piece.Struct p) = is_key_struct p.body p.names
is_key_at _ = false

-- a preference key
abbrev pub is_key : Piece → Bool
is_key p = is_key_at p.form

-- the number of the next preference key
abbrev pub next_key : List Piece → ℕ
next_key before = narrow (count_by is_key before)

-- the kind of a struct, where `key` is the number of the next preference key
abbrev pub struct_kind : ℕ → List (List ℕ) → Sort → Kind
struct_kind key names sort.Data = kind.Data (is_named names (codes "Identifiable"))
struct_kind key names sort.Enum = kind.Data (is_named names (codes "Identifiable"))
struct_kind key names sort.View = kind.View
struct_kind key names sort.App = kind.App
struct_kind key names sort.Key = kind.Key key

abbrev pub enum_kind : EnumPiece → Kind
enum_kind p = kind.Enum (is_named p.names (codes "CaseIterable")) (case_count p.items)

-- a declaration whose members are not known
abbrev pub head : List ℕ → Kind → Bool → Declaration
head name k main = record { name = name; kind = k; is_main = main; members = []; names = no_names }

abbrev pub struct_head : ℕ → StructPiece → StructBody → List Declaration
struct_head key p LeftAside = []
struct_head key p (Members ms) = head p.name (struct_kind key p.names (sort_of p.names)) p.is_main ∷ []

abbrev pub heads_at : ℕ → PieceForm → List Declaration
heads_at key (piece.Struct p) = struct_head key p p.body
heads_at key (piece.Enum p) = head p.name (enum_kind p) false ∷ []
heads_at key _ = []

abbrev pub heads_of : List Piece → Piece → List Declaration
heads_of before p = heads_at (next_key before) p.form

-- the declarations in text order, without their members
unfoldable pub heads : List Piece → List Declaration
heads = along heads_of

abbrev pub entry_name : Entry → List ℕ
entry_name e = e.name

abbrev pub entry_names : List Piece → Piece → List (List ℕ)
entry_names before p = map entry_name (entries_of p)

-- the names of the environment keys: `isEnabled` is built in, and those of the program follow in text order
unfoldable pub key_names : List Piece → List (List ℕ)
key_names ps = codes "isEnabled" ∷ along entry_names ps

abbrev pub declaration_name : Declaration → List ℕ
declaration_name d = d.name

-- the table that written types and names of keys are looked up in
unfoldable pub heads_table : List Piece → Table
heads_table ps = record {
  declarations = heads ps;
  environment = [];
  preferences = [];
  members = [];
  names = first_places (map declaration_name (heads ps));
  keys = first_places (key_names ps);
}
