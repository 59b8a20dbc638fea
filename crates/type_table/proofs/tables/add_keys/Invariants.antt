use Rattle.std.proofs.Common.{◌≡◌, ◌++◌, take}
use Rattle.type_table.specs.Tables.{environment_keys}
use Rattle.type_table.proofs.tables.add_keys.Given as goal

abbrev pub invariant-loop-at : goal.invariant-loop-at
invariant-loop-at l = l.out ≡ l.initial.out ++ environment_keys l.heads l.first (take l.at l.entries)
