use Rattle.std.proofs.Common.{◌≡◌, take}
use Rattle.type_table.specs.Tables.{preferences}
use Rattle.type_table.proofs.tables.preferences.Given as goal

abbrev pub invariant-loop-at : goal.invariant-loop-at
invariant-loop-at l = l.out ≡ preferences (take l.at l.declarations)
