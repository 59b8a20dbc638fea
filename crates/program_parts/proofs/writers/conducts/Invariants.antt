use Rattle.std.proofs.Common.{◌≡◌, map, take}
use Rattle.program_parts.specs.Marks.{conduct_of}
use Rattle.program_parts.proofs.writers.conducts.Given as goal

abbrev pub invariant-loop-member : goal.invariant-loop-member
invariant-loop-member l = l.out ≡ map conduct_of (take l.member-index l.members)
