use Rattle.std.proofs.Common.{◌≡◌, drop}
use Rattle.place_tests.specs.Walks.{stored_type}
use Rattle.place_tests.proofs.walks.stored_type.Given as goal

abbrev pub invariant-loop-i : goal.invariant-loop-i
invariant-loop-i l = stored_type l.at (drop l.i l.members) ≡ stored_type l.at l.members
