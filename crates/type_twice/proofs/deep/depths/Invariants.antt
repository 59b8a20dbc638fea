use Rattle.std.proofs.Common.{◌≡◌}
use Rattle.type_twice.specs.Rounds.{known_at}
use Rattle.type_twice.proofs.deep.depths.Given as goal

abbrev pub invariant-loop-room : goal.invariant-loop-room
invariant-loop-room l = l.known ≡ known_at l.holds l.room
