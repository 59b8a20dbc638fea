use Rattle.std.proofs.Common.{◌≡◌, take}
use Rattle.type_table.specs.Tables.{declarations, first_code}
use Rattle.type_table.specs.Heads.{next_key}
use Rattle.type_table.proofs.tables.declarations.Given as goal

abbrev pub invariant-loop-piece : goal.invariant-loop-piece
invariant-loop-piece l = record {
  made : l.out ≡ declarations l.heads (take l.piece-index l.pieces);
  numbered : l.first ≡ first_code (take l.piece-index l.pieces);
  counted : l.key ≡ next_key (take l.piece-index l.pieces);
}
