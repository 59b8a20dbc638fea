use Rattle.std.proofs.Common.{◌≡◌, ℕ, ◌<◌, false}
use Rattle.program_parts.specs.Marks.{is_writer}
use Rattle.program_parts.proofs.writers.first_writer.Given as goal

abbrev pub invariant-loop-number : goal.invariant-loop-number
invariant-loop-number l = (j : ℕ) → j < l.number → is_writer l.table l.marks j ≡ false
