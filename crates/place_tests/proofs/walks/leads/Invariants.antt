use Rattle.std.proofs.Common.{◌≡◌, drop}
use Rattle.place_tests.specs.Walks.{nest, walk}
use Rattle.place_tests.proofs.walks.leads.Given as goal

abbrev pub invariant-loop-i : goal.invariant-loop-i
invariant-loop-i l = walk l.table (nest l.left l.reached) (drop l.i l.hops) ≡ walk l.table (nest l.lists l.base) l.hops
