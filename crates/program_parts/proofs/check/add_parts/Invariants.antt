use Rattle.std.proofs.Common.{◌≡◌, drop}
use Rattle.source_parts.specs.Parts.{parts_at}
use Rattle.part_rules.specs.Checks.{check_from}
use Rattle.program_parts.proofs.check.add_parts.Given as goal

abbrev pub invariant-loop-part : goal.invariant-loop-part
invariant-loop-part l = check_from l.table l.initial.cores (parts_at l.parts) ≡ check_from l.table l.cores (parts_at (drop l.part-index l.parts))
