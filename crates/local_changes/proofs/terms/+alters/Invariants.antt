use Rattle.std.proofs.Common.{◌≡◌, ◌++◌, map, drop}
use Rattle.local_changes.specs.Parts.{piece_alters, hop_alters}
use Rattle.swift_core.specs.Alters.{core_alters, filling_alters, all_of}
use Rattle.local_changes.proofs.terms.+alters.Given as goal

abbrev pub invariant-of_cores-loop-term : goal.invariant-of_cores-loop-term
invariant-of_cores-loop-term l = l.out ++ all_of (map core_alters (drop l.term-index l.terms)) ≡ l.initial.out ++ all_of (map core_alters l.terms)

abbrev pub invariant-of_fillings-loop-filling : goal.invariant-of_fillings-loop-filling
invariant-of_fillings-loop-filling l = l.out ++ all_of (map filling_alters (drop l.filling-index l.fillings)) ≡ l.initial.out ++ all_of (map filling_alters l.fillings)

abbrev pub invariant-of_pieces-loop-piece : goal.invariant-of_pieces-loop-piece
invariant-of_pieces-loop-piece l = l.out ++ all_of (map piece_alters (drop l.piece-index l.pieces)) ≡ l.initial.out ++ all_of (map piece_alters l.pieces)

abbrev pub invariant-of_indexes-loop-hop : goal.invariant-of_indexes-loop-hop
invariant-of_indexes-loop-hop l = l.out ++ all_of (map hop_alters (drop l.hop-index l.hop-items)) ≡ l.initial.out ++ all_of (map hop_alters l.hop-items)
