-- The line that the code holds as parts of a paragraph.
use Rattle.std.specs.Prelude.{Bool, true, false, List, [], ◌∷◌, ◌++◌}
use Rattle.text_layout.specs.Clusters.{ellipsis}
use Rattle.text_layout.specs.Cuts.{Row}
use Rattle.text_layout.specs.declared.pieces.Cluster.{Cluster}
use Rattle.text_layout.specs.declared.cutting.CutLine.{CutLine}

abbrev pub with_dots : Bool → List Cluster → List Cluster
with_dots true cs = cs ++ ellipsis ∷ []
with_dots false cs = cs

abbrev pub row_of : CutLine → Row
row_of r = record { line = with_dots r.dots r.line.now; onward = r.onward.now }
