use Rattle.std.proofs.Common.{◌≡◌, take}
use Rattle.view_tree.proofs.+copy.Given as goal

abbrev pub invariant-copy_tree::copy_nodes-loop-node : goal.invariant-copy_tree::copy_nodes-loop-node
invariant-copy_tree::copy_nodes-loop-node l = l.copy ≡ take l.node-index l.nodes
