use Rattle.std.proofs.Common.{◌≡◌, map, take}
use Rattle.call_reach.specs.Callers.{none_yet}
use Rattle.call_reach.proofs.callers.no_callers.Given as goal

abbrev pub invariant-loop-member : goal.invariant-loop-member
invariant-loop-member l = l.callers ≡ map none_yet (take l._member-index l.members)
