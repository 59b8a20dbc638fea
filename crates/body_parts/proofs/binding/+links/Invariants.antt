use Rattle.std.proofs.Common.{◌+◌, ◌*◌}
use Rattle.body_parts.proofs.binding.+links.Given as goal

abbrev pub decreases-links : goal.decreases-links
decreases-links g l = 2 * l.room

abbrev pub decreases-linked : goal.decreases-linked
decreases-linked g l = 2 * l.room + 1
