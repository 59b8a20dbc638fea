use Rattle.std.proofs.Common.{◌≡◌, ◌++◌, drop, length}
use Rattle.type_twice.specs.Deep.{holds_from}
use Rattle.type_twice.proofs.deep.holds.Given as goal

abbrev pub invariant-loop-piece : goal.invariant-loop-piece
invariant-loop-piece l = holds_from l.table 0 l.fn.source.pieces ≡ l.out ++ holds_from l.table (length l.out) (drop l.piece-index l.piece-items)
