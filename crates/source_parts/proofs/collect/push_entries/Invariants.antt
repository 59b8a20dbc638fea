use Rattle.std.proofs.Common.{◌≡◌, ◌++◌, take}
use Rattle.std.specs.List.{flat_map}
use Rattle.source_parts.specs.Parts.{entry_part, parts_at}
use Rattle.source_parts.proofs.collect.push_entries.Given as goal

abbrev pub invariant-loop-entry : goal.invariant-loop-entry
invariant-loop-entry l = parts_at l.out.items ≡ parts_at l.initial.out.items ++ flat_map entry_part (take l.entry-index l.entries)
