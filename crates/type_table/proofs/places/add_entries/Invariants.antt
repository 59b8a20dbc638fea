use Rattle.std.proofs.Common.{◌≡◌, ◌++◌, take}
use Rattle.type_table.specs.Tables.{entry_places}
use Rattle.type_table.proofs.places.add_entries.Given as goal

abbrev pub invariant-loop-at : goal.invariant-loop-at
invariant-loop-at l = l.out ≡ l.initial.out ++ entry_places l.first (take l.at l.entries)
