-- Which declarations fit: the names after the colon, the forms of the members, and that none is missing.
use Rattle.std.specs.Prelude.{◌≡◌, Bool, true, false, not, ◌&&◌, ◌||◌, List, ℕ, codes, if◌then◌else◌}
use Rattle.std.specs.List.{list_any, list_all}
use Rattle.std.specs.Str.{bytes_eq}
use Rattle.swift_ast.specs.declared.piece.Member.{Member}
use Rattle.swift_ast.specs.declared.piece.MemberForm.{MemberForm}
use Rattle.swift_ast.specs.declared.piece.MemberForm.TheVariants as member
use Rattle.swift_ast.specs.declared.piece.StructPiece.{StructPiece}
use Rattle.swift_ast.specs.declared.piece.StructBody.{StructBody}
use Rattle.swift_ast.specs.declared.piece.StructBody.TheVariants.{Members, LeftAside}
use Rattle.swift_ast.specs.declared.piece.EnumPiece.{EnumPiece}
use Rattle.swift_ast.specs.declared.piece.EnumItem.{EnumItem}
use Rattle.swift_ast.specs.declared.piece.EnumItem.TheVariants as item
use Rattle.swift_ast.specs.declared.piece.Piece.{Piece}
use Rattle.swift_ast.specs.declared.piece.PieceForm.{PieceForm}
use Rattle.swift_ast.specs.declared.piece.PieceForm.TheVariants as piece
use Rattle.member_forms.specs.declared.role.Sort.{Sort}
use Rattle.member_forms.specs.declared.role.Sort.TheVariants as sort
use Rattle.member_forms.specs.declared.role.Role.{Role}
use Rattle.member_forms.specs.declared.role.Role.TheVariants as role
use Rattle.member_forms.specs.Roles.{role_of}

abbrev pub is_named : List (List ℕ) → List ℕ → Bool
is_named names w = list_any (λ n. bytes_eq n w) names

-- what a struct is: a view, an app or a preference key where it names that protocol, and else a data struct
abbrev pub sort_of : List (List ℕ) → Sort
sort_of names =
    if is_named names (codes "View") then sort.View
    else if is_named names (codes "App") then sort.App
    else if is_named names (codes "PreferenceKey") then sort.Key
    else sort.Data

-- which protocols each may conform to
abbrev pub name_fits : Sort → List ℕ → Bool
name_fits sort.View w = bytes_eq w (codes "View")
name_fits sort.App w = bytes_eq w (codes "App")
name_fits sort.Key w = bytes_eq w (codes "PreferenceKey")
name_fits sort.Data w = bytes_eq w (codes "Identifiable") || bytes_eq w (codes "Equatable") || bytes_eq w (codes "Hashable")
name_fits sort.Enum w = bytes_eq w (codes "CaseIterable") || bytes_eq w (codes "Equatable") || bytes_eq w (codes "Hashable")

abbrev pub names_fit : Sort → List (List ℕ) → Bool
names_fit s = list_all (name_fits s)

abbrev pub member_name_at : MemberForm → List ℕ
member_name_at (member.Stored b w t v) = w
member_name_at (member.Computed w t body) = w
member_name_at (member.Function w ps t body) = w

abbrev pub member_name : Member → List ℕ
member_name m = member_name_at m.form

abbrev pub is_fit : Role → Bool
is_fit role.Unfit = false
is_fit _ = true

abbrev pub member_fits : Sort → Member → Bool
member_fits s m = is_fit (role_of s m)

abbrev pub is_stored_role : Role → Bool
is_stored_role role.Stored = true
is_stored_role _ = false

abbrev pub is_stored : Sort → List ℕ → Member → Bool
is_stored s w m = is_stored_role (role_of s m) && bytes_eq (member_name m) w

abbrev pub is_builder_role : Role → Bool
is_builder_role role.BuilderProperty = true
is_builder_role _ = false

abbrev pub is_body : Sort → Member → Bool
is_body s m = is_builder_role (role_of s m) && bytes_eq (member_name m) (codes "body")

abbrev pub is_static_role : Role → Bool
is_static_role role.Static = true
is_static_role _ = false

-- the one static property that a key may have is its default
abbrev pub is_default : Member → Bool
is_default m = is_static_role (role_of sort.Key m)

abbrev pub is_reduce_role : Role → Bool
is_reduce_role role.Reduce = true
is_reduce_role _ = false

abbrev pub is_reduce : Member → Bool
is_reduce m = is_reduce_role (role_of sort.Key m)

abbrev pub has_id : List Member → Bool
has_id = list_any (is_stored sort.Data (codes "id"))

abbrev pub has_body : Sort → List Member → Bool
has_body s = list_any (is_body s)

abbrev pub has_default : List Member → Bool
has_default = list_any is_default

abbrev pub has_reduce : List Member → Bool
has_reduce = list_any is_reduce

-- a view and an app have a body, a key a default and `reduce`, an `Identifiable` struct a stored `id`
abbrev pub is_complete : Sort → List (List ℕ) → List Member → Bool
is_complete sort.View names ms = has_body sort.View ms
is_complete sort.App names ms = has_body sort.App ms
is_complete sort.Key names ms = has_default ms && has_reduce ms
is_complete sort.Data names ms = not (is_named names (codes "Identifiable")) || has_id ms
is_complete sort.Enum names ms = true

abbrev pub members_fit : Sort → List Member → Bool
members_fit s = list_all (member_fits s)

abbrev pub is_app : Sort → Bool
is_app sort.App = true
is_app _ = false

abbrev pub main_fits : Sort → Bool → Bool
main_fits s main = if is_app s then main else not main

-- `@main` stands exactly on the app, the name is not `_`, and the names after the colon fit
abbrev pub head_fits : Sort → StructPiece → Bool
head_fits s p = main_fits s p.is_main && not (bytes_eq p.name (codes "_")) && names_fit s p.names

abbrev pub struct_body_fits : StructPiece → StructBody → Bool
struct_body_fits p LeftAside = true
struct_body_fits p (Members ms) = head_fits (sort_of p.names) p && members_fit (sort_of p.names) ms && is_complete (sort_of p.names) p.names ms

abbrev pub struct_fits : StructPiece → Bool
struct_fits p = struct_body_fits p p.body

abbrev pub item_fits : EnumItem → Bool
item_fits (item.Cases cs) = true
item_fits (item.Member m) = member_fits sort.Enum m

abbrev pub items_fit : List EnumItem → Bool
items_fit = list_all item_fits

abbrev pub enum_fits : EnumPiece → Bool
enum_fits p = not (bytes_eq p.name (codes "_")) && names_fit sort.Enum p.names && items_fit p.items

abbrev pub declaration_fits_at : PieceForm → Bool
declaration_fits_at (piece.Struct p) = struct_fits p
declaration_fits_at (piece.Enum p) = enum_fits p
declaration_fits_at _ = true

-- a declaration that fits; pieces that declare no struct and no enum, and those left aside, do
abbrev pub declaration_fits : Piece → Bool
declaration_fits p = declaration_fits_at p.form
