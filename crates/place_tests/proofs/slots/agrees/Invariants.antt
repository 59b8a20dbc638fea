use Rattle.place_tests.specs.Nested.{ReachedBefore}
use Rattle.place_tests.specs.Walks.{nest}
use Rattle.place_tests.proofs.slots.agrees.Given as goal

abbrev pub invariant-loop-at : goal.invariant-loop-at
invariant-loop-at g l = ReachedBefore l.table (g.A.Asks.demands l.asks) l.path l.slot (nest l.lists l.base) l.at
