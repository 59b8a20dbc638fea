-- What is found decides.
use Rattle.std.proofs.Common.{◌≡◌, ℕ, List, [], Ok, Err}
use Rattle.swift_core.specs.declared.table.Table.{Table}
use Rattle.swift_core.specs.declared.code.CoreMember.{CoreMember}
use Rattle.source_parts.specs.Parts.{Part}
use Rattle.part_rules.specs.Typed.{Typed, FirstUntyped}
use Rattle.part_rules.specs.Checks.{check_from}
use Rattle.part_rules.specs.Laws.{checks_are_typed, lines_are_first}

pub decided_ok : (table : Table) (parts : List Part) (cores : List CoreMember) → check_from table [] parts ≡ Ok cores → Typed table 0 parts cores
decided_ok table parts cores e = (checks_are_typed table parts cores).0 e

pub decided_err : (table : Table) (parts : List Part) (line : ℕ) → check_from table [] parts ≡ Err line → FirstUntyped table 0 parts line
decided_err table parts line e = (lines_are_first table parts line).0 e
