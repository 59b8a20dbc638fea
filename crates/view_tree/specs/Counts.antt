-- The count of a tree, and its depth.
use Rattle.std.specs.Prelude.{ℕ, ◌+◌, max, List, [], ◌∷◌, sum}
use Rattle.view_nodes.specs.Counts.{label_count, custom_count, reader_count}
use Rattle.view_tree.specs.declared.built.Built.{Built}
use Rattle.view_tree.specs.declared.built.Built.TheOpen as one
use Rattle.view_tree.specs.declared.built.Built.TheOpen.{Built-F}
use Rattle.view_tree.specs.declared.built.Built.TheFolds.{fold-Built}

abbrev pub count_step : Built-F ℕ → ℕ
count_step (one.Plain steps label found parts) = label_count label + sum parts
count_step (one.Custom steps custom last body) = custom_count custom + sum body
count_step (one.Reader steps reader content run body) = reader_count reader + content + sum body

-- the count of a node with all below it
abbrev pub count_of : Built → ℕ
count_of = fold-Built ℕ count_step

-- ---- depths

-- the greatest of the numbers, or 0
abbrev pub greatest : List ℕ → ℕ
greatest [] = 0
greatest (n ∷ ns) = max n (greatest ns)

abbrev pub depth_step : Built-F ℕ → ℕ
depth_step (one.Plain steps label found parts) = 1 + greatest parts
depth_step (one.Custom steps custom last body) = 1 + greatest body
depth_step (one.Reader steps reader content run body) = 1 + max content (greatest body)

-- how many nodes stand one within the other at most, from this one down
abbrev pub depth_of : Built → ℕ
depth_of = fold-Built ℕ depth_step
