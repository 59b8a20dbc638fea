-- The rules give a member one core at most.
use Rattle.std.specs.Prelude.{◌≡◌, Option}
use Rattle.swift_core.specs.declared.table.Table.{Table}
use Rattle.swift_core.specs.declared.table.MemberPlace.{MemberPlace}
use Rattle.swift_core.specs.declared.code.CoreMember.{CoreMember}
use Rattle.swift_ast.specs.declared.piece.Member.{Member}
use Rattle.swift_ast.specs.declared.piece.MemberForm.{MemberForm}
use Rattle.swift_ast.specs.declared.piece.Entry.{Entry}
use Rattle.type_base.specs.Claims.{Reads, some_is}
use Rattle.std.proofs.Common.{sym, ◌∙◌}
use Rattle.member_rules.specs.Members.{TypedAt, TypedMember, TypedEntry}
use Rattle.member_rules.specs.Search.{find_at, find_at_exact, find_member, find_member_exact, find_entry, find_entry_exact}

-- a member of a declaration
abbrev pub OneCore : Type 0
OneCore = (table : Table) (x : Member) (a b : CoreMember) → TypedMember table x a → TypedMember table x b → a ≡ b

-- a member at a place of the table
abbrev pub OneCoreAt : Type 0
OneCoreAt = (table : Table) (place : MemberPlace) (f : MemberForm) (a b : CoreMember) → TypedAt table place f a → TypedAt table place f b → a ≡ b

-- an environment key
abbrev pub OneDefault : Type 0
OneDefault = (table : Table) (place : MemberPlace) (x : Entry) (a b : CoreMember) → TypedEntry table place x a → TypedEntry table place x b → a ≡ b

one : (found : Option CoreMember) (P : CoreMember → Type 0) → Reads found P → (a b : CoreMember) → P a → P b → a ≡ b
one found P reads a b p q = some_is a b (sym ((reads a).1 p) ∙ (reads b).1 q)

pub one_core : OneCore
one_core table x = one (find_member table x) (TypedMember table x) (find_member_exact table x)

pub one_core_at : OneCoreAt
one_core_at table place f = one (find_at table place f) (TypedAt table place f) (find_at_exact table place f)

pub one_default : OneDefault
one_default table place x = one (find_entry table place x) (TypedEntry table place x) (find_entry_exact table place x)
