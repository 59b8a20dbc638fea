use Rattle.std.proofs.Common.{◌≡◌, take}
use Rattle.source_parts.specs.Parts.{parts_at}
use Rattle.part_rules.specs.Writers.{member_lines}
use Rattle.program_parts.proofs.writers.member_lines.Given as goal

abbrev pub invariant-loop-part : goal.invariant-loop-part
invariant-loop-part l = l.lines.items ≡ member_lines (parts_at (take l.part-index l.parts))
