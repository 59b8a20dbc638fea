use Rattle.std.proofs.Common.{drop, take}
use Rattle.swift_core.specs.Context.{inputs_of}
use Rattle.swift_core.specs.Values.{AllHaveValue}
use Rattle.value_tests.proofs.Runs.{Rest}
use Rattle.value_tests.proofs.has.+has.Given as goal

abbrev pub invariant-all_have-loop-i : goal.invariant-all_have-loop-i
invariant-all_have-loop-i l = AllHaveValue l.table l.ty (take l.i l.values)

abbrev pub invariant-fields_have-loop-i : goal.invariant-fields_have-loop-i
invariant-fields_have-loop-i l = Rest l.table (inputs_of l.members) l.values (inputs_of (drop l.next l.members)) (drop l.i l.values)
