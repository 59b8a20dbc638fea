use Rattle.std.proofs.Common.{◌≡◌, ◌≤◌, ◌+◌, drop}
use Rattle.std.specs.Prelude.{min}
use Rattle.text_layout.specs.Lines.{width_of}
use Rattle.text_layout.proofs.pieces.columns_of.Given as goal

abbrev pub invariant-loop-cluster : goal.invariant-loop-cluster
invariant-loop-cluster l = record {
  within : l.total ≤ 1000000;
  told : min (l.total + width_of (drop l.cluster-index l.clusters)) 1000000 ≡ min (width_of l.clusters) 1000000;
}
