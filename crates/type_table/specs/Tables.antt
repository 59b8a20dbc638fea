-- The table of a source file.
use Rattle.std.specs.Prelude.{◌≡◌, ℕ, suc, ◌+◌, Bool, true, false, List, [], ◌∷◌, ◌++◌, Option, Some, None, length, map, codes, if◌then◌else◌}
use Rattle.std.specs.List.{sum_by, count_by, find}
use Rattle.swift_ast.specs.declared.piece.Source.{Source}
use Rattle.swift_ast.specs.declared.piece.Piece.{Piece}
use Rattle.swift_ast.specs.declared.piece.PieceForm.{PieceForm}
use Rattle.swift_ast.specs.declared.piece.PieceForm.TheVariants as piece
use Rattle.swift_ast.specs.declared.piece.StructPiece.{StructPiece}
use Rattle.swift_ast.specs.declared.piece.StructBody.{StructBody}
use Rattle.swift_ast.specs.declared.piece.StructBody.TheVariants.{Members, LeftAside}
use Rattle.swift_ast.specs.declared.piece.EnumItem.{EnumItem}
use Rattle.swift_ast.specs.declared.piece.EnumItem.TheVariants as item
use Rattle.swift_ast.specs.declared.piece.CaseName.{CaseName}
use Rattle.swift_ast.specs.declared.piece.Member.{Member}
use Rattle.swift_ast.specs.declared.piece.Entry.{Entry}
use Rattle.swift_core.specs.declared.ty.Ty.{Ty}
use Rattle.swift_core.specs.declared.ty.Ty.TheVariants as ty
use Rattle.swift_core.specs.declared.ids.CodeId.{CodeId}
use Rattle.swift_core.specs.declared.table.Table.{Table}
use Rattle.swift_core.specs.declared.table.Declaration.{Declaration}
use Rattle.swift_core.specs.declared.table.Kind.{Kind}
use Rattle.swift_core.specs.declared.table.Kind.TheVariants as kind
use Rattle.swift_core.specs.declared.table.Signature.{Signature}
use Rattle.swift_core.specs.declared.table.SignatureForm.{SignatureForm}
use Rattle.swift_core.specs.declared.table.SignatureForm.TheVariants as form
use Rattle.swift_core.specs.declared.table.EnvironmentKey.{EnvironmentKey}
use Rattle.swift_core.specs.declared.table.PreferenceKey.{PreferenceKey}
use Rattle.swift_core.specs.declared.table.MemberPlace.{MemberPlace}
use Rattle.member_forms.specs.Whole.{sort_of}
use Rattle.type_table.specs.Along.{narrow, wide, along, first_places}
use Rattle.type_table.specs.Signatures.{declared_type, signatures, struct_drafts, enum_drafts}
use Rattle.type_table.specs.Heads.{entries_of, next_declaration, heads_table, key_names, head, struct_kind, enum_kind, next_key}

-- ---- numbers of code

abbrev pub item_size : EnumItem → ℕ
item_size (item.Cases cs) = length cs
item_size (item.Member m) = 1

abbrev pub struct_size : StructBody → ℕ
struct_size LeftAside = 0
struct_size (Members ms) = length ms

abbrev pub piece_size : PieceForm → ℕ
piece_size (piece.Struct p) = struct_size p.body
piece_size (piece.Enum p) = sum_by item_size p.items
piece_size (piece.Environment es) = length es
piece_size _ = 0

-- how many members, cases and keys a piece has
abbrev pub codes_in : Piece → ℕ
codes_in p = piece_size p.form

-- the number of the first code of a piece, by the pieces before it: 0 is that of the default of `isEnabled`
unfoldable pub first_code : List Piece → ℕ
first_code before = wide (suc (sum_by codes_in before))

-- ---- declarations

abbrev pub signature_name : Signature → List ℕ
signature_name s = s.name

-- a declaration with its members
abbrev pub with_members : Declaration → List Signature → Declaration
with_members d ms = record { name = d.name; kind = d.kind; is_main = d.is_main; members = ms; names = first_places (map signature_name ms) }

abbrev pub struct_declaration : Table → ℕ → ℕ → StructPiece → StructBody → List Declaration
struct_declaration heads first key p LeftAside = []
struct_declaration heads first key p (Members ms) =
    with_members (head p.name (struct_kind key p.names (sort_of p.names)) p.is_main) (signatures first (struct_drafts heads (sort_of p.names) ms)) ∷ []

abbrev pub declarations_at : Table → ℕ → ℕ → PieceForm → List Declaration
declarations_at heads first key (piece.Struct p) = struct_declaration heads first key p p.body
declarations_at heads first key (piece.Enum p) = with_members (head p.name (enum_kind p) false) (signatures first (enum_drafts heads p.items)) ∷ []
declarations_at heads first key _ = []

abbrev pub declarations_of : Table → List Piece → Piece → List Declaration
declarations_of heads before p = declarations_at heads (first_code before) (next_key before) p.form

unfoldable pub declarations : Table → List Piece → List Declaration
declarations heads = along (declarations_of heads)

-- ---- environment keys

abbrev pub environment_key_of : Table → ℕ → List Entry → Entry → EnvironmentKey
environment_key_of heads first before e = record { name = e.name; ty = declared_type heads e.declared; default = record { number = wide (first + length before) } }

abbrev pub environment_keys : Table → ℕ → List Entry → List EnvironmentKey
environment_keys heads first = along (λ before e. environment_key_of heads first before e ∷ [])

abbrev pub environment_of : Table → List Piece → Piece → List EnvironmentKey
environment_of heads before p = environment_keys heads (first_code before) (entries_of p)

abbrev pub is_enabled : EnvironmentKey
is_enabled = record { name = codes "isEnabled"; ty = Some ty.Bool; default = record { number = 0 } }

unfoldable pub environment : Table → List Piece → List EnvironmentKey
environment heads ps = is_enabled ∷ along (environment_of heads) ps

-- ---- preference keys

abbrev pub is_static_form : SignatureForm → Bool
is_static_form (form.Static t) = true
is_static_form _ = false

abbrev pub is_static : Signature → Bool
is_static s = is_static_form s.form

abbrev pub is_reduce_form : SignatureForm → Bool
is_reduce_form form.Reduce = true
is_reduce_form _ = false

abbrev pub is_reduce : Signature → Bool
is_reduce s = is_reduce_form s.form

abbrev pub static_type_at : SignatureForm → Option Ty
static_type_at (form.Static t) = t
static_type_at _ = None

abbrev pub type_or_none : Option Signature → Option Ty
type_or_none None = None
type_or_none (Some s) = static_type_at s.form

abbrev pub code_or_first : Option Signature → CodeId
code_or_first None = record { number = 0 }
code_or_first (Some s) = s.code

-- a key by its static property, which is its default, and `reduce`
abbrev pub preference_at : ℕ → Declaration → Kind → List PreferenceKey
preference_at at d (kind.Key k) = record {
  declaration = narrow at;
  ty = type_or_none (find is_static d.members);
  default = code_or_first (find is_static d.members);
  reduce = code_or_first (find is_reduce d.members);
} ∷ []
preference_at at d _ = []

abbrev pub preference_of : List Declaration → Declaration → List PreferenceKey
preference_of before d = preference_at (length before) d d.kind

unfoldable pub preferences : List Declaration → List PreferenceKey
preferences = along preference_of

-- ---- places of members

abbrev pub member_place : ℕ → List ℕ → ℕ → MemberPlace
member_place d before start = record { first = start; declaration = Some d; at = narrow (length before) }

-- the places of the members of declaration d, by their first tokens
unfoldable pub member_places : ℕ → List ℕ → List MemberPlace
member_places d = along (λ before start. member_place d before start ∷ [])

abbrev pub member_start : Member → ℕ
member_start m = m.span.first

abbrev pub case_start : CaseName → ℕ
case_start c = c.span.first

abbrev pub item_starts : EnumItem → List ℕ
item_starts (item.Cases cs) = map case_start cs
item_starts (item.Member m) = member_start m ∷ []

abbrev pub enum_starts : List EnumItem → List ℕ
enum_starts = along (λ before i. item_starts i)

abbrev pub struct_places : ℕ → StructBody → List MemberPlace
struct_places d LeftAside = []
struct_places d (Members ms) = member_places d (map member_start ms)

abbrev pub entry_count : Piece → ℕ
entry_count p = length (entries_of p)

-- the number of the first key of a piece, by the pieces before it: `isEnabled` is 0
unfoldable pub first_key : List Piece → ℕ
first_key before = narrow (suc (sum_by entry_count before))

abbrev pub entry_place : ℕ → List Entry → Entry → MemberPlace
entry_place first before e = record { first = e.span.first; declaration = None; at = narrow (first + length before) }

abbrev pub entry_places : ℕ → List Entry → List MemberPlace
entry_places first = along (λ before e. entry_place first before e ∷ [])

abbrev pub places_at : ℕ → ℕ → PieceForm → List MemberPlace
places_at d key (piece.Struct p) = struct_places d p.body
places_at d key (piece.Enum p) = member_places d (enum_starts p.items)
places_at d key (piece.Environment es) = entry_places key es
places_at d key _ = []

abbrev pub places_of : List Piece → Piece → List MemberPlace
places_of before p = places_at (next_declaration before) (first_key before) p.form

unfoldable pub places : List Piece → List MemberPlace
places = along places_of

-- ---- the table

abbrev pub table_with : Table → List Piece → List Declaration → Table
table_with heads ps ds = record {
  declarations = ds;
  environment = environment heads ps;
  preferences = preferences ds;
  members = places ps;
  names = heads.names;
  keys = heads.keys;
}

-- the table of a source file: its declarations with the written types of their members
unfoldable pub table_of : Source → Table
table_of source = table_with (heads_table source.pieces) source.pieces (declarations (heads_table source.pieces) source.pieces)
