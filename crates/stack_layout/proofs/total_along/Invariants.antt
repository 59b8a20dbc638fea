use Rattle.std.proofs.Common.{◌≡◌, ◌+◌, take, length}
use Rattle.std.specs.Prelude.{sum_by, map}
use Rattle.align_guides.specs.Lengths.{saturated}
use Rattle.stack_layout.specs.Stacks.{along, gaps_of}
use Rattle.stack_layout.specs.Slots.{size_of}
use Rattle.stack_layout.proofs.total_along.Given as goal

abbrev pub invariant-loop-slot : goal.invariant-loop-slot
invariant-loop-slot l = l.sum ≡ saturated (sum_by (along l.axis) (map size_of (take l.slot-index l.slots)) + gaps_of l.spacing (length l.slots))
