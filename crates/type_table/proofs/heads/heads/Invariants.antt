use Rattle.std.proofs.Common.{◌≡◌, take}
use Rattle.type_table.specs.Heads.{heads, next_key}
use Rattle.type_table.proofs.heads.heads.Given as goal

abbrev pub invariant-loop-piece : goal.invariant-loop-piece
invariant-loop-piece l = record {
  made : l.out ≡ heads (take l.piece-index l.pieces);
  counted : l.key ≡ next_key (take l.piece-index l.pieces);
}
