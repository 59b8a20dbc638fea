use Rattle.std.proofs.Common.{◌≡◌, take}
use Rattle.std.specs.Prelude.{sum_by}
use Rattle.align_guides.specs.Lengths.{saturated}
use Rattle.stack_layout.specs.Slots.{kept_of}
use Rattle.stack_layout.proofs.kept_back.Given as goal

abbrev pub invariant-loop-slot : goal.invariant-loop-slot
invariant-loop-slot l = l.sum ≡ saturated (sum_by (kept_of l.axis l.first.priority) (take l.slot-index l.slots))
