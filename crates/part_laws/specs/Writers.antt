-- No builder and no computed property of the table reaches a write, where none of the members does.
use Rattle.std.specs.Prelude.{◌≡◌, ℕ, suc, true, List, Option, Some, slice_get}
use Rattle.std.proofs.Common.{refl, ap, subst, ◌∙◌, arith}
use Rattle.std.proofs.lemmas.Option.{slice_get_within}
use Rattle.swift_ast.specs.declared.piece.Source.{Source}
use Rattle.swift_core.specs.Programs.{StandsAt, Reaches, is_body}
use Rattle.swift_core.specs.declared.code.CoreMember.{CoreMember}
use Rattle.swift_core.specs.declared.table.Declaration.{Declaration}
use Rattle.swift_core.specs.declared.table.MemberPlace.{MemberPlace}
use Rattle.swift_core.specs.declared.table.Signature.{Signature}
use Rattle.swift_core.specs.declared.table.Table.{Table}
use Rattle.type_base.specs.Claims.{and_then}
use Rattle.source_parts.specs.Parts.{parts_of}
use Rattle.part_rules.specs.Writers.{signature_of, is_body_of, NoWriter, member_lines}
use Rattle.table_names.specs.Codes.{codes_stand}
use Rattle.table_names.specs.Tables.{IsTableOf, IsSmall}
use Rattle.part_laws.specs.Things.{member_lines_length}
use Rattle.part_laws.specs.Found.{places_length}

-- where a code stands in the table
record Stood (table : Table) (n d at : ℕ) : Type 0 where
  i : ℕ
  number : n ≡ suc i
  place : MemberPlace
  stands : slice_get table.members i ≡ Some place
  owner : place.declaration ≡ Some d
  at_is : place.at ≡ at

stood : (table : Table) (n d at : ℕ) (o : Option ℕ) → o ≡ Some d → StandsAt table n o at → Stood table n d at
stood table n d at o e (StandsAt.stands_at {i = i} {place = place} h) = record { i = i; number = refl; place = place; stands = h; owner = e; at_is = refl }

signature_is : (table : Table) (i d at : ℕ) (place : MemberPlace) (declaration : Declaration) (s : Signature) → slice_get table.members i ≡ Some place → place.declaration ≡ Some d → place.at ≡ at
    → slice_get table.declarations d ≡ Some declaration → slice_get declaration.members at ≡ Some s → signature_of table i ≡ Some s
unfolding and_then
signature_is table i d at place declaration s p o a e h =
    ap (λ (x : Option MemberPlace). and_then x (λ y. and_then y.declaration (λ c. and_then (slice_get table.declarations c) (λ owner. slice_get owner.members y.at)))) p
    ∙ ap (λ (x : Option ℕ). and_then x (λ c. and_then (slice_get table.declarations c) (λ owner. slice_get owner.members place.at))) o
    ∙ ap (λ (x : Option Declaration). and_then x (λ owner. slice_get owner.members place.at)) e
    ∙ ap (slice_get declaration.members) a ∙ h

-- no builder and no computed property reaches a write
abbrev pub Pure : Table → List CoreMember → Type 0
Pure table members = (d : ℕ) (declaration : Declaration) (at : ℕ) (s : Signature)
    → slice_get table.declarations d ≡ Some declaration → slice_get declaration.members at ≡ Some s → is_body s.form ≡ true → Reaches members s.code.number → ⊥

pub no_writer_pure : {source : Source} {table : Table} (members : List CoreMember) → IsTableOf source table → IsSmall table → NoWriter table members (member_lines (parts_of source)) → Pure table members
no_writer_pure {source = source} {table = table} members is small none d declaration at s e h body reaches =
    let c = stood table s.code.number d at (Some d) refl (codes_stand source table is small d declaration at s e h) in
    let lt = slice_get_within table.members c.i c.place c.stands in
    let l = places_length is in let m = member_lines_length source in
    none c.i (omega (arith, lt, l, m))
    (ap is_body_of (signature_is table c.i d at c.place declaration s c.stands c.owner c.at_is e h) ∙ body, subst (Reaches members) c.number reaches)
