-- When the parts of a source file are typed, and which is the first that is not.
use Rattle.std.specs.Prelude.{◌≡◌, ◌⊎◌, ℕ, ◌+◌, Bool, true, List, [], ◌∷◌, ◌++◌, length, Some, slice_get}
use Rattle.swift_ast.specs.declared.piece.Piece.{Piece}
use Rattle.swift_core.specs.declared.table.Table.{Table}
use Rattle.swift_core.specs.declared.table.MemberPlace.{MemberPlace}
use Rattle.swift_core.specs.declared.code.CoreMember.{CoreMember}
use Rattle.member_forms.specs.Whole.{declaration_fits}
use Rattle.member_rules.specs.Shapes.{without_code}
use Rattle.member_rules.specs.Members.{TypedAt, TypedEntry, names_something}
use Rattle.source_parts.specs.Parts.{Part, line_of}

-- a declaration as a whole fits its kind
unfoldable pub fits : Piece → Bool
fits p = declaration_fits p

-- what stands at a place of the table's members has this core
abbrev pub TypedPlace : Table → MemberPlace → Part → CoreMember → Type 0
TypedPlace table place (Part.a_declaration p) c = ⊥
TypedPlace table place (Part.a_member m) c = TypedAt table place m.form c
TypedPlace table place (Part.a_case n) c = (names_something n.name ≡ true) × (c ≡ without_code)
TypedPlace table place (Part.an_entry e) c = TypedEntry table place e c

-- a part that is member number i of the table
unfoldable pub TypedMember : Table → ℕ → Part → List CoreMember → Type 0
TypedMember table i part cs = (place : MemberPlace) × (slice_get table.members i ≡ Some place) × ((c : CoreMember) × TypedPlace table place part c × (cs ≡ c ∷ []))

-- A part is typed where so many members stand before it, and gives these cores. A declaration that fits its kind gives none.
abbrev pub TypedPart : Table → ℕ → Part → List CoreMember → Type 0
TypedPart table i (Part.a_declaration p) cs = (fits p ≡ true) × (cs ≡ [])
TypedPart table i part cs = TypedMember table i part cs

-- all parts are typed, behind so many members, and give these cores
unfoldable pub Typed : Table → ℕ → List Part → List CoreMember → Type 0
Typed table i [] cs = cs ≡ []
Typed table i (p ∷ ps) cs = (front : List CoreMember) × TypedPart table i p front × ((rest : List CoreMember) × Typed table (i + length front) ps rest × (cs ≡ front ++ rest))

-- the first part that is not typed begins in this line
unfoldable pub FirstUntyped : Table → ℕ → List Part → ℕ → Type 0
FirstUntyped table i [] line = ⊥
FirstUntyped table i (p ∷ ps) line =
    (((cs : List CoreMember) → TypedPart table i p cs → ⊥) × (line ≡ line_of p))
    ⊎ ((front : List CoreMember) × TypedPart table i p front × FirstUntyped table (i + length front) ps line)
