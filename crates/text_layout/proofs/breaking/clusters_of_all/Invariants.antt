use Rattle.std.proofs.Common.{◌≡◌, ◌++◌, drop, string_bytes}
use Rattle.std.specs.Prelude.{map}
use Rattle.text_layout.specs.Clusters.{clusters_of}
use Rattle.text_layout.proofs.breaking.clusters_of_all.Given as goal

abbrev pub invariant-loop-paragraph : goal.invariant-loop-paragraph
invariant-loop-paragraph l = l.all.items ++ map clusters_of (map string_bytes (drop l.paragraph-index l.paragraphs)) ≡ map clusters_of (map string_bytes l.paragraphs)
