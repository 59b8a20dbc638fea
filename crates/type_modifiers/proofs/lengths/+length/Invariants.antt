use Rattle.std.proofs.Common.{◌+◌, ◌*◌}
use Rattle.type_modifiers.proofs.lengths.+length.Given as goal

abbrev pub decreases-length_to : goal.decreases-length_to
decreases-length_to l = 2 * l.room

abbrev pub decreases-length_at : goal.decreases-length_at
decreases-length_at l = 2 * l.room + 1
