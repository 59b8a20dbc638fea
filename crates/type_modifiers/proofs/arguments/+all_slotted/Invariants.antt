use Rattle.std.proofs.Common.{length}
use Rattle.type_modifiers.proofs.arguments.+all_slotted.Given as goal

abbrev pub decreases-all_slotted : goal.decreases-all_slotted
decreases-all_slotted l = length l.slots.now
