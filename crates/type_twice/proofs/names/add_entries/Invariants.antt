use Rattle.std.proofs.Common.{◌≡◌, ◌++◌, take, map}
use Rattle.type_twice.specs.Twice.{named_entry}
use Rattle.type_twice.proofs.names.add_entries.Given as goal

abbrev pub invariant-loop-entry : goal.invariant-loop-entry
invariant-loop-entry l = l.out ≡ l.initial.out ++ map named_entry (take l.entry-index l.entries)
