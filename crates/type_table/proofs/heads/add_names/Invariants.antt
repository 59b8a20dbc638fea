use Rattle.std.proofs.Common.{◌≡◌, ◌++◌, take, map}
use Rattle.type_table.specs.Heads.{entry_name}
use Rattle.type_table.proofs.heads.add_names.Given as goal

abbrev pub invariant-loop-entry : goal.invariant-loop-entry
invariant-loop-entry l = l.out ≡ l.initial.out ++ map entry_name (take l.entry-index l.entries)
