-- What answers as a search decides by its rule.
use Rattle.std.proofs.Common.{ℕ, Result}
use Rattle.swift_core.specs.declared.table.Table.{Table}
use Rattle.swift_core.specs.declared.table.MemberPlace.{MemberPlace}
use Rattle.swift_core.specs.declared.code.CoreMember.{CoreMember}
use Rattle.swift_ast.specs.declared.piece.MemberForm.{MemberForm}
use Rattle.swift_ast.specs.declared.piece.Entry.{Entry}
use Rattle.type_check.specs.declared.fault.MemberFault.{MemberFault}
use Rattle.type_check.specs.Answers.{Answers, Decides, decided}
use Rattle.member_rules.specs.Members.{TypedAt, TypedEntry}
use Rattle.member_rules.specs.Search.{find_at, find_at_exact, find_entry, find_entry_exact}

pub decided_at : (result : Result CoreMember MemberFault) (line : ℕ) (table : Table) (place : MemberPlace) (f : MemberForm)
    → Answers result line (find_at table place f) → Decides result line (TypedAt table place f)
decided_at result line table place f a = decided result line (find_at table place f) (TypedAt table place f) (find_at_exact table place f) a

pub decided_entry : (result : Result CoreMember MemberFault) (line : ℕ) (table : Table) (place : MemberPlace) (x : Entry)
    → Answers result line (find_entry table place x) → Decides result line (TypedEntry table place x)
decided_entry result line table place x a = decided result line (find_entry table place x) (TypedEntry table place x) (find_entry_exact table place x) a
