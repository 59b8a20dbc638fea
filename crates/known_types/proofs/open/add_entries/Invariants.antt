use Rattle.std.proofs.Common.{◌≡◌, ◌++◌, map, drop}
use Rattle.known_rules.specs.Known.{entry_opens}
use Rattle.known_types.specs.Rows.{open_of}
use Rattle.known_types.proofs.open.add_entries.Given as goal

abbrev pub invariant-loop-entry : goal.invariant-loop-entry
invariant-loop-entry l = map open_of l.initial.out ++ entry_opens l.key l.entries ≡ map open_of l.out ++ entry_opens l.at (drop l.entry-index l.entries)
