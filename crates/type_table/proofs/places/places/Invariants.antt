use Rattle.std.proofs.Common.{◌≡◌, take}
use Rattle.type_table.specs.Tables.{places, first_key}
use Rattle.type_table.specs.Heads.{next_declaration}
use Rattle.type_table.proofs.places.places.Given as goal

abbrev pub invariant-loop-piece : goal.invariant-loop-piece
invariant-loop-piece l = record {
  made : l.out ≡ places (take l.piece-index l.pieces);
  counted : l.declaration ≡ next_declaration (take l.piece-index l.pieces);
  keyed : l.key ≡ first_key (take l.piece-index l.pieces);
}
