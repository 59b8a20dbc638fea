-- Which builders and computed properties reach a write outside action blocks, and which is the first.
use Rattle.std.specs.Prelude.{◌≡◌, ℕ, suc, ◌<◌, Bool, true, false, List, length, Option, Some, None, slice_get}
use Rattle.std.specs.List.{filter_map}
use Rattle.swift_core.specs.declared.table.Table.{Table}
use Rattle.swift_core.specs.declared.table.Signature.{Signature}
use Rattle.swift_core.specs.declared.code.CoreMember.{CoreMember}
use Rattle.swift_core.specs.Programs.{Reaches, is_body}
use Rattle.type_base.specs.Claims.{and_then}
use Rattle.source_parts.specs.Parts.{Part, line_of}

-- what member number i of the table is
abbrev pub signature_of : Table → ℕ → Option Signature
signature_of table i =
    and_then (slice_get table.members i) (λ place. and_then place.declaration (λ d.
    and_then (slice_get table.declarations d) (λ owner. slice_get owner.members place.at)))

abbrev pub is_body_of : Option Signature → Bool
is_body_of None = false
is_body_of (Some s) = is_body s.form

-- member number i of the table is a builder or a computed property, and it reaches a write of a state slot or through a binding
abbrev pub WritesInBody : Table → List CoreMember → ℕ → Type 0
WritesInBody table members i = (is_body_of (signature_of table i) ≡ true) × Reaches members (suc i)

-- the line of a member, a case or an environment key
abbrev pub member_line : Part → Option ℕ
member_line (Part.a_declaration p) = None
member_line part = Some (line_of part)

-- the lines of all members of the table, in order
unfoldable pub member_lines : List Part → List ℕ
member_lines = filter_map member_line

-- the first member that writes in its body begins in this line
pub record FirstWriter (table : Table) (members : List CoreMember) (lines : List ℕ) (line : ℕ) : Type 0 where
  pub at : ℕ
  pub stands : slice_get lines at ≡ Some line
  pub writes : WritesInBody table members at
  pub none_before : (j : ℕ) → j < at → WritesInBody table members j → ⊥

-- none of the members writes in its body
abbrev pub NoWriter : Table → List CoreMember → List ℕ → Type 0
NoWriter table members lines = (i : ℕ) → i < length lines → WritesInBody table members i → ⊥

-- the line of the first member that writes in its body, if there is one
abbrev pub IsFirstWriter : Option ℕ → Table → List CoreMember → List ℕ → Type 0
IsFirstWriter None table members lines = NoWriter table members lines
IsFirstWriter (Some line) table members lines = FirstWriter table members lines line
