use Rattle.std.proofs.Common.{◌↔◌, ◌≤◌, drop, map}
use Rattle.view_tree.specs.Counts.{depth_of, greatest}
use Rattle.view_tree.proofs.+depth.Given as goal

abbrev pub invariant-limits::all_within-loop-node : goal.invariant-limits::all_within-loop-node
invariant-limits::all_within-loop-node l = (greatest (map depth_of l.nodes) ≤ l.room) ↔ (greatest (map depth_of (drop l.node-index l.nodes)) ≤ l.room)
