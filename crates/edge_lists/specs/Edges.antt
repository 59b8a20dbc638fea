-- What contracts see of the edges, and what holds of the heads.
use Rattle.std.specs.Prelude.{◌≡◌, ℕ, ◌<◌, ◌≤◌, List, [], ◌∷◌, ◌++◌, length, slice_index_or, ◌==◌, ◌+◌, cond, Bool, true, false, Some, None, Option}
use denote.RawPtr.{Ptr}
use Rattle.edge_lists.specs.declared.node.Node.{Node}
use Rattle.edge_lists.specs.declared.node.NodePtr.{NodePtr}
use Rattle.edge_lists.specs.declared.lists.Ends.{Ends}
use Rattle.edge_lists.specs.Ends.{no_ends}
use Rattle.edge_lists.specs.Heap.{Placed, same_ptr}
use Rattle.edge_lists.specs.Links.{ptr_to, newest, source_of, reader_of, put_at, IsLinked, IsApart}

-- the edges as pairs of a reader and a source, and where they lie, in order of linking
pub record Edges : Type 0 where
  pub pairs : List (ℕ × ℕ)
  pub places : List Ptr
  pub readers : ℕ
  pub sources : ℕ
  pub spare : ℕ

-- the heap lists the newest first
abbrev pub pairs : List Placed → List (ℕ × ℕ)
pairs [] = []
pairs (n ∷ ns) = pairs ns ++ (n.node.reader, n.node.source) ∷ []

abbrev pub places : List Placed → List Ptr
places [] = []
places (n ∷ ns) = places ns ++ n.at ∷ []

-- the oldest node of a source, or o
abbrev pub oldest_or : Option NodePtr → ℕ → List Placed → Option NodePtr
oldest_or o s [] = o
oldest_or o s (n ∷ ns) = oldest_or (cond (n.node.source == s) (Some (ptr_to n.at)) o) s ns

-- each source has a head, and each reader
abbrev pub IsWithin : ℕ → ℕ → List Placed → Type 0
IsWithin k j [] = Unit {0}
IsWithin k j (n ∷ ns) = (n.node.source < k) × (n.node.reader < j) × IsWithin k j ns

-- the pairs of other readers, and how many are of this one
abbrev pub others : ℕ → List (ℕ × ℕ) → List (ℕ × ℕ)
others r [] = []
others r (q ∷ qs) = cond (q.0 == r) (others r qs) (q ∷ others r qs)

abbrev pub mine : ℕ → List (ℕ × ℕ) → ℕ
mine r [] = 0
mine r (q ∷ qs) = cond (q.0 == r) (mine r qs + 1) (mine r qs)

-- one pair of the reader is gone, or there was none
abbrev pub Dropped : Bool → ℕ → Edges → Edges → Type 0
Dropped true r old new = (mine r old.pairs ≡ mine r new.pairs + 1) × (new.spare ≡ old.spare + 1)
Dropped false r old new = (mine r old.pairs ≡ 0) × (new ≡ old)

abbrev pub IsWhole : List Placed → List (Option NodePtr) → List Ends → Type 0
IsWhole ns readers sources = IsApart ns × IsLinked (λ _. None) ns × ((r : ℕ) → r < length readers → slice_index_or readers r None ≡ newest reader_of r ns)
    × ((s : ℕ) → s < length sources → ((slice_index_or sources s no_ends).last ≡ newest source_of s ns) × ((slice_index_or sources s no_ends).first ≡ oldest_or None s ns))
    × IsWithin (length sources) (length readers) ns

-- where the pairs of a source lie, in order of linking
abbrev pub chain_of : ℕ → List (ℕ × ℕ) → List Ptr → List Ptr
chain_of s [] ps = []
chain_of s (q ∷ qs) [] = []
chain_of s (q ∷ qs) (p ∷ ps) = cond (q.1 == s) (p ∷ chain_of s qs ps) (chain_of s qs ps)

abbrev pub chain : ℕ → Edges → List Ptr
chain s e = chain_of s e.pairs e.places

-- p is the first of these places
abbrev pub IsFirst : Ptr → List Ptr → Type 0
IsFirst p ps = (rest : List Ptr) × (ps ≡ p ∷ rest)

-- the readers of a source, in order of linking
abbrev pub readers_of : ℕ → List (ℕ × ℕ) → List ℕ
readers_of s [] = []
readers_of s (q ∷ qs) = cond (q.1 == s) (q.0 ∷ readers_of s qs) (readers_of s qs)

-- every pair's reader is r at least
abbrev pub AllFrom : ℕ → List (ℕ × ℕ) → Type 0
AllFrom r [] = Unit {0}
AllFrom r (q ∷ qs) = (r ≤ q.0) × AllFrom r qs
