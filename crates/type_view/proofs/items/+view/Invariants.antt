use Rattle.std.proofs.Common.{◌+◌, ◌*◌}
use Rattle.type_view.proofs.items.+view.Given as goal

abbrev pub decreases-view_to : goal.decreases-view_to
decreases-view_to g l = 2 * l.room

abbrev pub decreases-view_at : goal.decreases-view_at
decreases-view_at g l = 2 * l.room + 1
