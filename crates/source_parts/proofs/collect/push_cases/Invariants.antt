use Rattle.std.proofs.Common.{◌≡◌, ◌++◌, take}
use Rattle.std.specs.List.{flat_map}
use Rattle.source_parts.specs.Parts.{case_part, parts_at}
use Rattle.source_parts.proofs.collect.push_cases.Given as goal

abbrev pub invariant-loop-case : goal.invariant-loop-case
invariant-loop-case l = parts_at l.out.items ≡ parts_at l.initial.out.items ++ flat_map case_part (take l.case-index l.cases)
