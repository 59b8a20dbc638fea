use Rattle.std.proofs.Common.{◌≡◌, ◌++◌, drop}
use Rattle.type_twice.specs.Rounds.{next_from}
use Rattle.type_twice.proofs.deep.next.Given as goal

abbrev pub invariant-loop-at : goal.invariant-loop-at
invariant-loop-at l = next_from l.known l.room 0 l.holds ≡ l.out ++ next_from l.known l.room l.at (drop l.at l.holds)
