-- The lines of a text at a width, with a limit on their number.
use Rattle.std.specs.Prelude.{◌≡◌, ◌<◌, ◌≤◌, ℕ, ◌-◌, ◌==◌, nat_le, max, sum_by, List, [], ◌∷◌, ◌++◌, length, take, drop, map, flat_map, Option, Some, None, if◌then◌else◌}
use Rattle.text_layout.specs.Paragraphs.{paragraphs}
use Rattle.text_layout.specs.Clusters.{clusters_of, ellipsis}
use Rattle.text_layout.specs.Cuts.{fit, without_trailing, Row, cut_rows}
use Rattle.text_layout.specs.declared.pieces.Cluster.{Cluster}

-- the columns that a line may take: without a width 1,000,000
abbrev pub columns : Option ℕ → ℕ
columns None = 1000000
columns (Some w) = w

-- without a width a paragraph is one line
abbrev pub rows_of : Option ℕ → List Cluster → List Row
rows_of None cs = record { line = cs; onward = cs } ∷ []
rows_of (Some w) cs = cut_rows w cs

abbrev pub line_of : Row → List Cluster
line_of r = r.line

-- the line that ends with the ellipsis, in w columns
abbrev pub shortened : ℕ → Row → List Cluster
shortened w r = without_trailing (take (fit (w - 1) r.onward) r.onward) ++ ellipsis ∷ []

-- at most so many lines, of which the last is shortened where more would follow
abbrev pub limited : Option ℕ → ℕ → List Row → List (List Cluster)
limited None w rows = map line_of rows
limited (Some n) w rows =
    if nat_le (length rows) n
    then map line_of rows
    else map line_of (take (n - 1) rows) ++ map (shortened w) (take 1 (drop (n - 1) rows))

-- at width 0 there is one empty line
abbrev pub lines_of : List ℕ → Option ℕ → Option ℕ → List (List Cluster)
lines_of text width most =
    if columns width == 0
    then [] ∷ []
    else limited most (columns width) (flat_map (rows_of width) (map clusters_of (paragraphs text)))

-- how many columns a line takes
abbrev pub width_of : List Cluster → ℕ
width_of line = sum_by (λ c. c.width) line

-- the columns of the widest line
abbrev pub widest_of : List (List Cluster) → ℕ
widest_of [] = 0
widest_of (line ∷ lines) = max (width_of line) (widest_of lines)

-- cut again at the width of the widest line, with as many lines as there are, the text has these lines
abbrev pub IsCutAgain : List ℕ → Option ℕ → List (List Cluster) → Type 0
IsCutAgain text width lines =
    0 < widest_of lines → widest_of lines ≤ columns width → lines_of text (Some (widest_of lines)) (Some (length lines)) ≡ lines
