use Rattle.std.proofs.Common.{◌≡◌, ◌++◌, take, map}
use Rattle.type_table.specs.Tables.{case_start}
use Rattle.type_table.proofs.places.add_case_starts.Given as goal

abbrev pub invariant-loop-case : goal.invariant-loop-case
invariant-loop-case l = l.out ≡ l.initial.out ++ map case_start (take l.case-index l.names)
