-- What the checks of all parts find, and that it is what the definitions say.
use Rattle.std.specs.Prelude.{ℕ, ◌+◌, List, [], ◌∷◌, ◌++◌, length, Option, Some, None, slice_get, Result, Ok, Err}
use Rattle.swift_core.specs.declared.table.Table.{Table}
use Rattle.swift_core.specs.declared.code.CoreMember.{CoreMember}
use Rattle.type_base.specs.Claims.{Reads, Then, and_then, when, reads_give, reads_none, reads_then, reads_when, reads_is, bool_is}
use Rattle.member_rules.specs.Shapes.{without_code}
use Rattle.member_rules.specs.Members.{names_something}
use Rattle.member_rules.specs.Search.{find_at, find_at_exact, find_entry, find_entry_exact}
use Rattle.source_parts.specs.Parts.{Part, line_of}
use Rattle.part_rules.specs.Typed.{fits, TypedPlace, TypedMember, TypedPart}
use Rattle.swift_core.specs.declared.table.MemberPlace.{MemberPlace}

abbrev pub find_place : Table → MemberPlace → Part → Option CoreMember
find_place table place (Part.a_declaration p) = None
find_place table place (Part.a_member m) = find_at table place m.form
find_place table place (Part.a_case n) = when (names_something n.name) (Some without_code)
find_place table place (Part.an_entry e) = find_entry table place e

pub place_exact : (table : Table) (place : MemberPlace) (part : Part) → Reads (find_place table place part) (TypedPlace table place part)
place_exact table place (Part.a_declaration p) = reads_none
place_exact table place (Part.a_member m) = find_at_exact table place m.form
place_exact table place (Part.a_case n) = reads_when bool_is (reads_give _)
place_exact table place (Part.an_entry e) = find_entry_exact table place e

unfoldable pub find_member : Table → ℕ → Part → Option (List CoreMember)
find_member table i part = and_then (slice_get table.members i) (λ place. and_then {B = List CoreMember} (find_place table place part) (λ c. Some (c ∷ [])))

abbrev pub find_part : Table → ℕ → Part → Option (List CoreMember)
find_part table i (Part.a_declaration p) = when (fits p) (Some [])
find_part table i part = find_member table i part

pub member_exact : (table : Table) (i : ℕ) (part : Part) → Reads (find_member table i part) (TypedMember table i part)
unfolding find_member TypedMember Then
member_exact table i part = reads_then (reads_is _) (λ place. reads_then (place_exact table place part) (λ c. reads_give _))

pub part_exact : (table : Table) (i : ℕ) (part : Part) → Reads (find_part table i part) (TypedPart table i part)
part_exact table i (Part.a_declaration p) = reads_when bool_is (reads_give _)
part_exact table i (Part.a_member m) = member_exact table i (Part.a_member m)
part_exact table i (Part.a_case n) = member_exact table i (Part.a_case n)
part_exact table i (Part.an_entry e) = member_exact table i (Part.an_entry e)

abbrev pub Found : Type 0
Found = Result (List CoreMember) ℕ

abbrev pub by_part : Option (List CoreMember) → ℕ → List CoreMember → (List CoreMember → Found) → Found
by_part None line cores f = Err line
by_part (Some front) line cores f = f (cores ++ front)

-- the cores of the parts, behind those so far, or the line of the first part that has none
unfoldable pub check_from : Table → List CoreMember → List Part → Found
check_from table cores [] = Ok cores
check_from table cores (p ∷ ps) = by_part (find_part table (length cores) p) (line_of p) cores (λ next. check_from table next ps)
