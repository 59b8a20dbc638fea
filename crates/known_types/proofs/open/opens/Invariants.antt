use Rattle.std.proofs.Common.{◌≡◌, ◌++◌, ◌≤◌, map, drop}
use Rattle.known_rules.specs.Known.{opens_from}
use Rattle.known_types.specs.Rows.{open_of}
use Rattle.known_types.proofs.open.opens.Given as goal

abbrev pub invariant-loop-piece : goal.invariant-loop-piece
invariant-loop-piece l = record {
  counted : l.declaration ≤ l.piece-index;
  rest : opens_from 0 1 l.fn.source.pieces ≡ map open_of l.out ++ opens_from l.declaration l.key (drop l.piece-index l.piece-items);
}
