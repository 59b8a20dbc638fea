use Rattle.std.proofs.Common.{◌≡◌, map, take}
use Rattle.program_parts.specs.Marks.{number_of}
use Rattle.program_parts.proofs.writers.numbers.Given as goal

abbrev pub invariant-loop-call : goal.invariant-loop-call
invariant-loop-call l = l.out ≡ map number_of (take l.call-index l.calls)
