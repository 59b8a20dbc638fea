use Rattle.std.proofs.Common.{◌≡◌, take}
use Rattle.view_nodes.proofs.copies.copy_blocks.Given as goal

abbrev pub invariant-loop-block : goal.invariant-loop-block
invariant-loop-block l = l.copy ≡ take l.block-index l.blocks
