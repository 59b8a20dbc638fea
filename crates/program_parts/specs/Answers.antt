-- What the check of all parts answers.
use Rattle.std.specs.Prelude.{List, Result, Ok, Err, ⊤}
use Rattle.swift_core.specs.declared.table.Table.{Table}
use Rattle.swift_core.specs.declared.code.CoreMember.{CoreMember}
use Rattle.type_check.specs.declared.fault.MemberFault.{MemberFault}
use Rattle.type_check.specs.declared.fault.MemberFault.TheVariants.{NotTyped, OutOfMemory}
use Rattle.source_parts.specs.Parts.{Part}
use Rattle.part_rules.specs.Typed.{Typed, FirstUntyped}

-- Ok with the cores of all parts, and NotTyped with the line of the first that has none
abbrev pub Decided : Result (List CoreMember) MemberFault → Table → List Part → Type 0
Decided (Ok cores) table parts = Typed table 0 parts cores
Decided (Err (NotTyped line)) table parts = FirstUntyped table 0 parts line
Decided (Err OutOfMemory) table parts = ⊤
