use Rattle.std.proofs.Common.{◌+◌, length}
use Rattle.call_reach.proofs.Least.{Going}
use Rattle.call_reach.proofs.Marking.{unmarked}
use Rattle.call_reach.proofs.search.reaching.Given as goal

abbrev pub invariant-loop-at : goal.invariant-loop-at
invariant-loop-at l = Going l.members l.marks.items l.work.items

abbrev pub decreases-loop-at : goal.decreases-loop-at
decreases-loop-at l = unmarked l.marks.items + length l.work.items
