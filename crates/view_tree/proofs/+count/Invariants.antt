use Rattle.std.proofs.Common.{◌≡◌, take, min, sum, map}
use Rattle.view_tree.specs.Counts.{count_of}
use Rattle.view_tree.proofs.+count.Given as goal

abbrev pub invariant-limits::count_all-loop-node : goal.invariant-limits::count_all-loop-node
invariant-limits::count_all-loop-node l = l.total ≡ min (sum (map count_of (take l.node-index l.nodes))) 20001
