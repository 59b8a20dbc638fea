use Rattle.std.proofs.Common.{◌≡◌, drop}
use Rattle.call_reach.specs.Callers.{callers_from, callers_of}
use Rattle.call_reach.proofs.callers.callers_of.Given as goal

abbrev pub invariant-loop-at : goal.invariant-loop-at
invariant-loop-at l = callers_of l.members ≡ callers_from l.at l.callers (drop l.at l.members)
