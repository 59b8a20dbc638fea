use Rattle.std.proofs.Common.{◌≡◌, ◌++◌, drop}
use Rattle.text_layout.proofs.limiting.copies_of.Given as goal

abbrev pub invariant-loop-cluster : goal.invariant-loop-cluster
invariant-loop-cluster l = l.copies.items ++ drop l.cluster-index l.clusters ≡ l.clusters
