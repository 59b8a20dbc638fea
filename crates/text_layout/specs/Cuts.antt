-- How a paragraph is cut into lines of a width.
use Rattle.std.specs.Prelude.{ℕ, zero, suc, ◌+◌, ◌-◌, ◌==◌, nat_le, Bool, List, [], ◌∷◌, length, take, drop, Option, Some, None, if◌then◌else◌}
use Rattle.std.specs.List.{prefix_len, suffix_len}
use Rattle.text_layout.specs.Clusters.{is_space, ellipsis}
use Rattle.text_layout.specs.declared.pieces.Cluster.{Cluster}

-- how many clusters the longest prefix of width at most w has
abbrev pub fit : ℕ → List Cluster → ℕ
fit w [] = 0
fit w (c ∷ cs) = if nat_le c.width w then suc (fit (w - c.width) cs) else 0

-- where the last space stands
abbrev pub or_here : Option ℕ → Bool → Option ℕ
or_here (Some i) b = Some (suc i)
or_here None b = if b then Some 0 else None

abbrev pub last_space : List Cluster → Option ℕ
last_space [] = None
last_space (c ∷ cs) = or_here (last_space cs) (is_space c)

-- without trailing spaces, and without leading ones
abbrev pub without_trailing : List Cluster → List Cluster
without_trailing cs = take (length cs - suffix_len is_space cs) cs

abbrev pub without_leading : List Cluster → List Cluster
without_leading cs = drop (prefix_len is_space cs) cs

-- a line, and what is left after it
pub record Cut : Type 0 where
  pub line : List Cluster
  pub rest : List Cluster

-- the line is the prefix of k clusters, or the ellipsis in place of the first cluster
abbrev pub cut_hard : ℕ → List Cluster → Cut
cut_hard zero cs = record { line = ellipsis ∷ []; rest = drop 1 cs }
cut_hard (suc k) cs = record { line = take (suc k) cs; rest = drop (suc k) cs }

-- the line stands before a space, unless it would be empty
abbrev pub cut_soft : ℕ → List Cluster → List Cluster → List Cluster → Cut
cut_soft k cs [] rest = cut_hard k cs
cut_soft k cs (c ∷ line) rest = record { line = c ∷ line; rest = rest }

abbrev pub cut_at : Option ℕ → ℕ → List Cluster → Cut
cut_at None k cs = cut_hard k cs
cut_at (Some i) k cs = cut_soft k cs (without_trailing (take i cs)) (without_leading (drop (suc i) cs))

-- the first line of clusters that do not fit, of which k do: the last space is sought among these and the one after them
abbrev pub first_cut : ℕ → List Cluster → Cut
first_cut k cs = cut_at (last_space (take (k + 1) cs)) k cs

-- a line, and what stands from its beginning to the end of its paragraph
pub record Row : Type 0 where
  pub line : List Cluster
  pub onward : List Cluster

-- at most n lines
abbrev pub rows_up_to : ℕ → ℕ → List Cluster → List Row
rows_up_to zero w cs = []
rows_up_to (suc n) w cs =
    if fit w cs == length cs
    then record { line = cs; onward = cs } ∷ []
    else record { line = (first_cut (fit w cs) cs).line; onward = cs } ∷ rows_up_to n w (first_cut (fit w cs) cs).rest

-- the lines of a paragraph; each but the last takes a cluster
abbrev pub cut_rows : ℕ → List Cluster → List Row
cut_rows w cs = rows_up_to (suc (length cs)) w cs
