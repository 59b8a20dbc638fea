use Rattle.place_tests.specs.Nested.{AgreedBefore}
use Rattle.place_tests.proofs.slots.answers.Given as goal

abbrev pub invariant-loop-at : goal.invariant-loop-at
invariant-loop-at g l = AgreedBefore l.table (g.C.Cells.map l.cells) (g.A.Asks.demands l.asks) l.at
