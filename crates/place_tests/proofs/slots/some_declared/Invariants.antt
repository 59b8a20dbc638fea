use Rattle.place_tests.specs.Nested.{NoneDeclaredBefore}
use Rattle.place_tests.proofs.slots.some_declared.Given as goal

abbrev pub invariant-loop-number : goal.invariant-loop-number
invariant-loop-number g l = NoneDeclaredBefore l.table (g.C.Cells.map l.cells) (g.A.Asks.demands l.asks) l.path l.slot l.lists l.number
