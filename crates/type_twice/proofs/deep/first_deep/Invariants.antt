use Rattle.std.proofs.Common.{◌≡◌, ◌≤◌, drop}
use Rattle.type_twice.specs.Deep.{first_deep}
use Rattle.type_twice.specs.Rounds.{deep_known}
use Rattle.type_twice.proofs.deep.first_deep.Given as goal

abbrev pub invariant-loop-piece : goal.invariant-loop-piece
invariant-loop-piece l = record {
  counted : l.at ≤ l.piece-index;
  rest : first_deep (deep_known l.known) 0 l.pieces ≡ first_deep (deep_known l.known) l.at (drop l.piece-index l.pieces);
}
