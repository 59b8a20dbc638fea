use Rattle.std.proofs.Common.{◌≡◌, take}
use Rattle.type_twice.specs.Rounds.{unknown}
use Rattle.type_twice.proofs.deep.unknown.Given as goal

abbrev pub invariant-loop-types : goal.invariant-loop-types
invariant-loop-types l = l.out ≡ unknown (take l.types-index l.holds)
