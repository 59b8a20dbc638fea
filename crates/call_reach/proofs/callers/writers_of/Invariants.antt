use Rattle.std.proofs.Common.{◌≡◌, ◌++◌, drop}
use Rattle.call_reach.specs.Callers.{writers_from}
use Rattle.call_reach.proofs.callers.writers_of.Given as goal

abbrev pub invariant-loop-at : goal.invariant-loop-at
invariant-loop-at l = writers_from 0 l.members ≡ l.writers.items ++ writers_from l.at (drop l.at l.members)
