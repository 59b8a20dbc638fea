use Rattle.std.proofs.Common.{◌≡◌, ◌++◌}
use Rattle.std.specs.Prelude.{map, filter}
use Rattle.unicode_segmentation.specs.Iter.{graphemes_left}
use Rattle.text_layout.specs.Clusters.{cluster_of, takes_columns, clusters_of}
use Rattle.text_layout.proofs.breaking.clusters_of.Given as goal

abbrev pub invariant-loop-text : goal.invariant-loop-text
invariant-loop-text l = l.clusters.items ++ filter takes_columns (map cluster_of (graphemes_left l.text-iterator)) ≡ clusters_of l.paragraph
