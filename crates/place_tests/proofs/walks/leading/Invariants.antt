use Rattle.std.proofs.Common.{◌≡◌, ◌+◌, drop}
use Rattle.place_tests.specs.Walks.{leading}
use Rattle.place_tests.proofs.walks.leading.Given as goal

abbrev pub invariant-loop-i : goal.invariant-loop-i
invariant-loop-i l = leading l.hops ≡ l.i + leading (drop l.i l.hops)
