use Rattle.std.proofs.Common.{◌≡◌, List, ◌∷◌, ◌++◌}
use denote.RawPtr.{Ptr}
use Rattle.edge_lists.specs.Edges.{chain}
use Rattle.edge_lists.proofs.tests.reader_after.Given as goal

-- the edge is one of the source's
abbrev pub invariant-loop-other : goal.invariant-loop-other
invariant-loop-other l = (xs : List Ptr) × (ys : List Ptr) × (chain l.source l.lists ≡ xs ++ l.edge.at.ptr ∷ ys)
