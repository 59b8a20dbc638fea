use Rattle.std.proofs.Common.{◌≡◌, drop}
use Rattle.type_twice.specs.Held.{twice_seen, start}
use Rattle.type_twice.proofs.twice.find_twice.Given as goal

abbrev pub invariant-loop-piece : goal.invariant-loop-piece
invariant-loop-piece l = twice_seen start l.fn.source.pieces ≡ twice_seen l.seen (drop l.piece-index l.piece-items)
