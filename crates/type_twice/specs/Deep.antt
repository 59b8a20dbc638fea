-- How deep the values of a data struct are, and which data structs are deeper than a type may be.
-- After The Swift Programming Language, 'Structures', where a struct holds its stored properties themselves.
use Rattle.std.specs.Prelude.{◌≡◌, ℕ, zero, suc, ◌+◌, Bool, true, false, not, ◌&&◌, List, [], ◌∷◌, ◌++◌, Option, Some, None, length, slice_get, if◌then◌else◌}
use Rattle.std.specs.List.{list_all, list_any}
use Rattle.std.specs.Option.{option_or, option_to_list}
use Rattle.swift_ast.specs.declared.type_name.TypeName.{TypeName}
use Rattle.swift_ast.specs.declared.piece.Source.{Source}
use Rattle.swift_ast.specs.declared.piece.Piece.{Piece}
use Rattle.swift_ast.specs.declared.piece.PieceForm.{PieceForm}
use Rattle.swift_ast.specs.declared.piece.PieceForm.TheVariants as piece
use Rattle.swift_ast.specs.declared.piece.StructBody.{StructBody}
use Rattle.swift_ast.specs.declared.piece.StructBody.TheVariants.{Members, LeftAside}
use Rattle.swift_ast.specs.declared.piece.Modifier.{Modifier}
use Rattle.swift_ast.specs.declared.piece.Member.{Member}
use Rattle.swift_ast.specs.declared.piece.MemberForm.{MemberForm}
use Rattle.swift_ast.specs.declared.piece.MemberForm.TheVariants as member
use Rattle.swift_core.specs.declared.ty.Ty.{Ty, out-Ty}
use Rattle.swift_core.specs.declared.ty.Ty.TheOpen.{Ty-F}
use Rattle.swift_core.specs.declared.table.Table.{Table}
use Rattle.swift_core.specs.declared.table.Declaration.{Declaration}
use Rattle.swift_core.specs.declared.table.Signature.{Signature}
use Rattle.swift_core.specs.declared.table.SignatureForm.{SignatureForm}
use Rattle.swift_core.specs.declared.table.SignatureForm.TheVariants as form
use Rattle.member_forms.specs.declared.marks.Mark.TheVariants as mark
use Rattle.member_forms.specs.declared.role.Sort.{Sort}
use Rattle.member_forms.specs.declared.role.Sort.TheVariants as sort
use Rattle.member_forms.specs.Marks.{is_mark}
use Rattle.member_forms.specs.Whole.{sort_of}
use Rattle.type_base.specs.Depth.{deepest}
use Rattle.type_base.specs.TypeNames.{written_type}
use Rattle.type_twice.specs.Twice.{line_if}

-- ---- what a data struct holds

abbrev pub stored_type_at : SignatureForm → Option Ty
stored_type_at (form.Stored n b t a) = t
stored_type_at _ = None

abbrev pub stored_type : Option Signature → Option Ty
stored_type None = None
stored_type (Some s) = stored_type_at s.form

-- the type of a stored property: the one that is written, however deep it is, and else the one that its initial value has
abbrev pub held_by : Table → Option Signature → Option TypeName → Option Ty
held_by table s (Some t) = written_type table t
held_by table s None = stored_type s

abbrev pub is_static : List Modifier → Bool
is_static = list_any (is_mark mark.Static)

-- a static belongs to no value
abbrev pub held_at : Table → Option Signature → List Modifier → MemberForm → Option Ty
held_at table s ms (member.Stored b w t v) = if is_static ms then None else held_by table s t
held_at table s ms _ = None

-- the types of the stored properties, of which the first is member `at` of the declaration
abbrev pub held_from : Table → List Signature → ℕ → List Member → List Ty
held_from table signatures at [] = []
held_from table signatures at (m ∷ ms) = option_to_list (held_at table (slice_get signatures at) m.modifiers m.form) ++ held_from table signatures (suc at) ms

abbrev pub members_of : Option Declaration → List Signature
members_of None = []
members_of (Some d) = d.members

abbrev pub is_data_sort : Sort → Bool
is_data_sort sort.Data = true
is_data_sort _ = false

abbrev pub struct_held : Table → Option Declaration → List (List ℕ) → StructBody → List Ty
struct_held table d names LeftAside = []
struct_held table d names (Members ms) = if is_data_sort (sort_of names) then held_from table (members_of d) 0 ms else []

abbrev pub piece_held : Table → Option Declaration → PieceForm → List Ty
piece_held table d (piece.Struct p) = struct_held table d p.names p.body
piece_held table d _ = []

abbrev pub declares_struct : StructBody → Bool
declares_struct LeftAside = false
declares_struct (Members ms) = true

abbrev pub declares_at : PieceForm → Bool
declares_at (piece.Struct p) = declares_struct p.body
declares_at (piece.Enum p) = true
declares_at _ = false

-- what each declaration holds, of which the first is number `at`; an enum, a view, an app and a key hold nothing here
abbrev pub holds_from : Table → ℕ → List Piece → List (List Ty)
holds_from table at [] = []
holds_from table at (p ∷ ps) =
    if declares_at p.form then piece_held table (slice_get table.declarations at) p.form ∷ holds_from table (suc at) ps else holds_from table at ps

unfoldable pub holds : Source → Table → List (List Ty)
holds source table = holds_from table 0 source.pieces

-- ---- how deep it is

-- a declaration of which these are held is at most one deeper than these may be
abbrev pub all_held : (Ty → Bool) → Option (List Ty) → Bool
all_held test None = false
all_held test (Some ts) = list_all test ts

-- one layer of a type: a list and an optional are one deeper than the type inside, a data struct one deeper than its deepest stored property
abbrev pub layer_fits : List (List Ty) → (Ty → Bool) → Ty-F Ty → Bool
layer_fits hs test (Ty-F.List t) = test t
layer_fits hs test (Ty-F.Optional t) = test t
layer_fits hs test (Ty-F.Named d) = all_held test (slice_get hs d)
layer_fits hs test _ = true

-- the type is at most n deep; what holds itself is deeper than every n
abbrev pub fits : List (List Ty) → ℕ → Ty → Bool
fits hs zero t = false
fits hs (suc n) t = layer_fits hs (fits hs n) (out-Ty t)

-- the declaration is at most n deep
abbrev pub declaration_fits : List (List Ty) → ℕ → ℕ → Bool
declaration_fits hs zero d = false
declaration_fits hs (suc n) d = all_held (fits hs n) (slice_get hs d)

-- ---- the refusal

abbrev pub is_data_struct : StructBody → List (List ℕ) → Bool
is_data_struct LeftAside names = false
is_data_struct (Members ms) names = is_data_sort (sort_of names)

abbrev pub is_data_at : PieceForm → Bool
is_data_at (piece.Struct p) = is_data_struct p.body p.names
is_data_at _ = false

-- the first data struct that is deeper than a type may be; `deep d` says that declaration d is
abbrev pub first_deep : (ℕ → Bool) → ℕ → List Piece → Option ℕ
first_deep deep at [] = None
first_deep deep at (p ∷ ps) =
    if declares_at p.form then (if is_data_at p.form && deep at then Some p.span.line else first_deep deep (suc at) ps)
    else first_deep deep at ps

-- the line of the first data struct that holds itself, leads to one that does, or is deeper than a type may be
unfoldable pub recursive : Source → Table → Option ℕ
recursive source table = first_deep (λ d. not (declaration_fits (holds source table) deepest d)) 0 source.pieces
