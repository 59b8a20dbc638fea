use Rattle.std.proofs.Common.{◌≡◌, ◌++◌, map, drop}
use Rattle.core_uses.specs.Parts.{piece_mentions, hop_mentions}
use Rattle.swift_core.specs.Mentions.{core_mentions, filling_mentions, joined}
use Rattle.core_uses.proofs.core_mentions.+mentions.Given as goal

abbrev pub invariant-of_cores-loop-term : goal.invariant-of_cores-loop-term
invariant-of_cores-loop-term l = l.out ++ joined (map core_mentions (drop l.term-index l.terms)) ≡ l.initial.out ++ joined (map core_mentions l.terms)

abbrev pub invariant-of_fillings-loop-filling : goal.invariant-of_fillings-loop-filling
invariant-of_fillings-loop-filling l = l.out ++ joined (map filling_mentions (drop l.filling-index l.fillings)) ≡ l.initial.out ++ joined (map filling_mentions l.fillings)

abbrev pub invariant-of_pieces-loop-piece : goal.invariant-of_pieces-loop-piece
invariant-of_pieces-loop-piece l = l.out ++ joined (map piece_mentions (drop l.piece-index l.pieces)) ≡ l.initial.out ++ joined (map piece_mentions l.pieces)

abbrev pub invariant-of_target-loop-hop : goal.invariant-of_target-loop-hop
invariant-of_target-loop-hop l = l.out ++ joined (map hop_mentions (drop l.hop-index l.hop-items)) ≡ l.initial.out ++ joined (map hop_mentions l.hop-items)
