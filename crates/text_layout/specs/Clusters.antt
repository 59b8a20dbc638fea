-- The clusters of a paragraph, each with its width.
use Rattle.std.specs.Prelude.{ℕ, ◌==◌, Bool, true, false, not, List, [], ◌∷◌, map, filter, chars}
use Rattle.unicode_segmentation.specs.Grapheme.{graphemes}
use Rattle.unicode_width.specs.Width.{str_width}
use Rattle.text_layout.specs.declared.pieces.Cluster.{Cluster}

-- an extended grapheme cluster (UAX 29) with the columns that it takes (UAX 11)
abbrev pub cluster_of : List ℕ → Cluster
cluster_of g = record { text = g; width = str_width false (chars g) }

abbrev pub takes_columns : Cluster → Bool
takes_columns c = not (c.width == 0)

-- those of width 0 are dropped
abbrev pub clusters_of : List ℕ → List Cluster
clusters_of paragraph = filter takes_columns (map cluster_of (graphemes true paragraph))

-- U+0020 alone
abbrev pub is_blank : List ℕ → Bool
is_blank [] = false
is_blank (b ∷ []) = b == 32
is_blank (b ∷ c ∷ bs) = false

abbrev pub is_space : Cluster → Bool
is_space c = is_blank c.text

-- the character U+2026, which stands for what is left out
abbrev pub ellipsis : Cluster
ellipsis = record { text = 226 ∷ 128 ∷ 166 ∷ []; width = 1 }
