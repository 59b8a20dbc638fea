use Rattle.std.proofs.Common.{◌≡◌, take}
use Rattle.type_table.specs.Tables.{environment, first_code}
use Rattle.type_table.proofs.tables.environment.Given as goal

abbrev pub invariant-loop-piece : goal.invariant-loop-piece
invariant-loop-piece l = record {
  made : l.out ≡ environment l.heads (take l.piece-index l.pieces);
  numbered : l.first ≡ first_code (take l.piece-index l.pieces);
}
