use Rattle.std.proofs.Common.{◌≡◌, ◌++◌, take}
use Rattle.std.specs.List.{flat_map}
use Rattle.source_parts.specs.Parts.{piece_parts, parts_at}
use Rattle.source_parts.proofs.collect.push_pieces.Given as goal

abbrev pub invariant-loop-piece : goal.invariant-loop-piece
invariant-loop-piece l = parts_at l.out.items ≡ parts_at l.initial.out.items ++ flat_map piece_parts (take l.piece-index l.pieces)
