use Rattle.std.proofs.Common.{arith}
use Rattle.body_nodes.proofs.Parted.{parted_part, parted_turn}
use Rattle.body_nodes.proofs.fills.parted.Goals as goal

pub with_part-requires : goal.with_part-requires
with_part-requires c = parted_part _ _ _ _ _ _ c.in-len1-up.len_at_least (omega arith) c.input-item.is c.loop-kinds.invariant c.requires

pub loop-kinds-preserved : goal.loop-kinds-preserved
loop-kinds-preserved c =
    parted_turn _ _ _ _ _ _ _ c.in-len1-up.len_at_least (omega arith) c.input-item.is c.in_ok-added.ensures c.loop-kinds.invariant
