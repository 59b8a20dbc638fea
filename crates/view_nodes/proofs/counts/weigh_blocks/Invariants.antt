use Rattle.std.proofs.Common.{◌≡◌, take, min, sum, map}
use Rattle.view_nodes.specs.Counts.{handler_weight}
use Rattle.view_nodes.proofs.counts.weigh_blocks.Given as goal

abbrev pub invariant-loop-block : goal.invariant-loop-block
invariant-loop-block l = l.total ≡ min (sum (map handler_weight (take l.block-index l.blocks))) 18446744073709551615
