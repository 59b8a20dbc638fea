use Rattle.std.proofs.Common.{◌≡◌, take}
use Rattle.type_table.specs.Heads.{key_names}
use Rattle.type_table.proofs.heads.key_names.Given as goal

abbrev pub invariant-loop-piece : goal.invariant-loop-piece
invariant-loop-piece l = l.out ≡ key_names (take l.piece-index l.pieces)
