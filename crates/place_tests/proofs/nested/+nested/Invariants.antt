use Rattle.std.proofs.Common.{take}
use Rattle.swift_core.specs.Values.{AllHaveValue}
use Rattle.place_tests.specs.Walks.{nest}
use Rattle.place_tests.proofs.nested.+nested.Given as goal

abbrev pub invariant-all_nested-loop-i : goal.invariant-all_nested-loop-i
invariant-all_nested-loop-i l = AllHaveValue l.table (nest l.lists l.base) (take l.i l.values)
