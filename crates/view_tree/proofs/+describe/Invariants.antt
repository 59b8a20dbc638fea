use Rattle.std.proofs.Common.{◌≡◌, map, take}
use Rattle.view_tree.specs.Descriptions.{description}
use Rattle.view_tree.proofs.+describe.Given as goal

abbrev pub invariant-copies::describe_all-loop-node : goal.invariant-copies::describe_all-loop-node
invariant-copies::describe_all-loop-node l = l.desc ≡ map description (take l.node-index l.nodes)
