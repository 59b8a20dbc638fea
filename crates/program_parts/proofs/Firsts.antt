-- The first writer is found by the marks of those that reach a write.
use Rattle.std.proofs.Common.{◌≡◌, ◌↔◌, ℕ, suc, ◌&&◌, Bool, true, false, List, map, Option, Some, None, slice_get, refl, sym, ap, subst, ◌∙◌}
use Rattle.swift_core.specs.declared.table.Table.{Table}
use Rattle.swift_core.specs.declared.code.CoreMember.{CoreMember}
use Rattle.call_reach.specs.declared.search.Conduct.{Conduct}
use Rattle.swift_core.specs.Programs.{Reaches}
use Rattle.swift_core.specs.Writers.{or_false, mark_at, AreWriters}
use Rattle.call_reach.specs.Reaching.{Reaches as ConductReaches, is_marked}
use Rattle.call_reach.specs.Reaching as reaching
use Rattle.part_rules.specs.Writers.{WritesInBody, IsFirstWriter, is_body_of, signature_of}
use Rattle.program_parts.specs.Marks.{is_writer, IsFirstLine, AreMarks, conduct_of}
use Rattle.program_parts.proofs.Reached.{same_reach}

both : (a b : Bool) (A B : Type 0) → ((b ≡ true) ↔ B) → ((a && b) ≡ true) ↔ ((a ≡ true) × B)
both true b A B h = (λ e. (refl, h.0 e), λ w. h.1 w.1)
both false b A B h = (λ e. cc, λ w. let k = w.0 in cc)

not_both : (a b : Bool) (B : Type 0) → ((b ≡ true) ↔ B) → (a && b) ≡ false → ((a ≡ true) × B) → ⊥
not_both true b B h e w = let k = h.1 w.1 in cc
not_both false b B h e w = let k = w.0 in cc

-- by what each member does
pub marks_known : (members : List CoreMember) (conducts slice : List Conduct) (marks : List Bool) → conducts ≡ map conduct_of members → slice ≡ conducts
    → ((i : ℕ) → (is_marked marks i ≡ true) ↔ ConductReaches slice i) → AreMarks members marks
unfolding AreMarks
marks_known members conducts slice marks e d m i =
    let p : slice ≡ map conduct_of members = d ∙ e in
    let k : (is_marked marks i ≡ true) ↔ ConductReaches (map conduct_of members) i = subst (λ (v : List Conduct). (is_marked marks i ≡ true) ↔ ConductReaches v i) p (m i) in
    (λ h. (same_reach members i).0 (k.0 h), λ r. k.1 ((same_reach members i).1 r))

same_mark : (o : Option Bool) → reaching.or_false o ≡ or_false o
same_mark None = refl
same_mark (Some b) = refl

-- the marks as a program keeps them
pub writers_known : (members slice : List CoreMember) (marks ws : List Bool) → AreMarks slice marks → slice ≡ members → ws ≡ marks → AreWriters members ws
unfolding AreMarks AreWriters
writers_known members slice marks ws m d e n =
    let same : is_marked marks n ≡ mark_at ws n = same_mark (slice_get marks n) ∙ ap (λ (v : List Bool). mark_at v n) (sym e) in
    subst (λ (b : Bool). (b ≡ true) ↔ Reaches members n) same (subst (λ (v : List CoreMember). (is_marked marks n ≡ true) ↔ Reaches v n) d (m n))

is_so : (table : Table) (members : List CoreMember) (marks : List Bool) → AreMarks members marks → (i : ℕ) → is_writer table marks i ≡ true → WritesInBody table members i
unfolding AreMarks
is_so table members marks m i e = (both (is_body_of (signature_of table i)) (is_marked marks (suc i)) (Unit {0}) (Reaches members (suc i)) (m (suc i))).0 e

is_not : (table : Table) (members : List CoreMember) (marks : List Bool) → AreMarks members marks → (i : ℕ) → is_writer table marks i ≡ false → WritesInBody table members i → ⊥
unfolding AreMarks
is_not table members marks m i e = not_both (is_body_of (signature_of table i)) (is_marked marks (suc i)) (Reaches members (suc i)) (m (suc i)) e

by_marks : (o : Option ℕ) (table : Table) (members : List CoreMember) (marks : List Bool) (lines : List ℕ) → AreMarks members marks
    → IsFirstLine o (is_writer table marks) lines → IsFirstWriter o table members lines
unfolding IsFirstLine
by_marks None table members marks lines m f = λ i l. is_not table members marks m i (f i l)
by_marks (Some line) table members marks lines m f = record {
  at = f.at;
  stands = f.stands;
  writes = is_so table members marks m f.at f.passes;
  none_before = λ j l. is_not table members marks m j (f.none_before j l);
}

-- the first line by the marks is that of the first writer
pub writer_known : (o : Option ℕ) (table : Table) (members : List CoreMember) (marks slice : List Bool) (lines row all : List ℕ) → AreMarks members marks → slice ≡ marks
    → lines ≡ all → row ≡ lines → IsFirstLine o (is_writer table slice) row → IsFirstWriter o table members all
writer_known o table members marks slice lines row all m d e h f =
    by_marks o table members marks all m (subst (λ (v : List Bool). IsFirstLine o (is_writer table v) all) d (subst (λ (v : List ℕ). IsFirstLine o (is_writer table slice) v) (h ∙ e) f))
