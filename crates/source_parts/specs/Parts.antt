-- The parts of a source file in text order: each declaration as a whole, and then what stands in it.
use Rattle.std.specs.Prelude.{ℕ, List, [], ◌∷◌, ◌++◌, map}
use Rattle.std.specs.List.{flat_map}
use Rattle.swift_ast.specs.declared.piece.Source.{Source}
use Rattle.swift_ast.specs.declared.piece.Piece.{Piece}
use Rattle.swift_ast.specs.declared.piece.PieceForm.{PieceForm}
use Rattle.swift_ast.specs.declared.piece.PieceForm.TheVariants as piece
use Rattle.swift_ast.specs.declared.piece.StructBody.{StructBody}
use Rattle.swift_ast.specs.declared.piece.StructBody.TheVariants as body
use Rattle.swift_ast.specs.declared.piece.EnumItem.{EnumItem}
use Rattle.swift_ast.specs.declared.piece.EnumItem.TheVariants as item
use Rattle.swift_ast.specs.declared.piece.CaseName.{CaseName}
use Rattle.swift_ast.specs.declared.piece.Member.{Member}
use Rattle.swift_ast.specs.declared.piece.Entry.{Entry}
use Rattle.source_parts.specs.declared.part_ref.PartRef.{PartRef}
use Rattle.source_parts.specs.declared.part_ref.PartRef.TheVariants as ref

-- a declaration as a whole, a member of it, a case of an enum, and an environment key
pub data Part : Type 0 where
  a_declaration : Piece → Part
  a_member : Member → Part
  a_case : CaseName → Part
  an_entry : Entry → Part

-- the line of the first token
abbrev pub line_of : Part → ℕ
line_of (Part.a_declaration p) = p.span.line
line_of (Part.a_member m) = m.span.line
line_of (Part.a_case c) = c.span.line
line_of (Part.an_entry e) = e.span.line

abbrev pub member_part : Member → List Part
member_part m = Part.a_member m ∷ []

abbrev pub case_part : CaseName → List Part
case_part c = Part.a_case c ∷ []

abbrev pub entry_part : Entry → List Part
entry_part e = Part.an_entry e ∷ []

abbrev pub item_parts : EnumItem → List Part
item_parts (item.Cases cs) = flat_map case_part cs
item_parts (item.Member m) = member_part m

abbrev pub body_parts : StructBody → List Part
body_parts body.LeftAside = []
body_parts (body.Members ms) = flat_map member_part ms

abbrev pub inner_parts : PieceForm → List Part
inner_parts (piece.Struct p) = body_parts p.body
inner_parts (piece.Enum p) = flat_map item_parts p.items
inner_parts (piece.Environment es) = flat_map entry_part es
inner_parts _ = []

-- a piece as a whole, and then what stands in it
abbrev pub piece_parts : Piece → List Part
piece_parts p = Part.a_declaration p ∷ inner_parts p.form

-- the parts of a file in text order
unfoldable pub parts_of : Source → List Part
parts_of source = flat_map piece_parts source.pieces

-- what a reference refers to
abbrev pub part_at : PartRef → Part
part_at (ref.Declaration p) = Part.a_declaration p.now
part_at (ref.Member m) = Part.a_member m.now
part_at (ref.Case c) = Part.a_case c.now
part_at (ref.Entry e) = Part.an_entry e.now

abbrev pub parts_at : List PartRef → List Part
parts_at = map part_at
