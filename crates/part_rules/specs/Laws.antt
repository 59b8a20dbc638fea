-- The checks of all parts find what the definitions say, and nothing else.
use Rattle.std.specs.Prelude.{◌≡◌, ◌↔◌, ℕ, List, [], Ok, Err}
use Rattle.std.proofs.Common.{sym, subst}
use Rattle.swift_core.specs.declared.table.Table.{Table}
use Rattle.swift_core.specs.declared.code.CoreMember.{CoreMember}
use Rattle.source_parts.specs.Parts.{Part}
use Rattle.part_rules.specs.Typed.{Typed, FirstUntyped}
use Rattle.part_rules.specs.Checks.{check_from}
use Rattle.part_rules.specs.Founds.{typed_of, typed_to, untyped_of, untyped_to}

-- cores are found exactly where all parts are typed
abbrev pub ChecksAreTyped : Type 0
ChecksAreTyped = (table : Table) (parts : List Part) (cores : List CoreMember) → (check_from table [] parts ≡ Ok cores) ↔ Typed table 0 parts cores

-- a line is found exactly where the first part that is not typed begins there
abbrev pub LinesAreFirst : Type 0
LinesAreFirst = (table : Table) (parts : List Part) (line : ℕ) → (check_from table [] parts ≡ Err line) ↔ FirstUntyped table 0 parts line

pub checks_are_typed : ChecksAreTyped
checks_are_typed table parts cores = (
  λ e. let r = typed_of table parts [] cores e in subst (λ (v : List CoreMember). Typed table 0 parts v) (sym r.2) r.1,
  λ t. typed_to table parts [] cores t,
)

pub lines_are_first : LinesAreFirst
lines_are_first table parts line = (λ e. untyped_of table parts [] line e, λ f. untyped_to table parts [] line f)
