use Rattle.std.proofs.Common.{◌≡◌, ◌++◌, map, drop}
use Rattle.view_tree.specs.Standing.{below, standing_in}
use Rattle.view_tree.proofs.standing.+walk.Given as goal

abbrev pub invariant-walk_all-loop-node : goal.invariant-walk_all-loop-node
invariant-walk_all-loop-node l = l.out ++ below l.at (map standing_in (drop l.node-index l.nodes)) ≡ l.initial.out ++ below l.at (map standing_in l.nodes)
