use Rattle.std.proofs.Common.{◌≡◌, ◌≤◌, length, take}
use Rattle.type_base.specs.Context.{last_at}
use Rattle.type_base.specs.Names.{is_named}
use Rattle.type_base.proofs.lookup.last_local.Given as goal

abbrev pub invariant-loop-at : goal.invariant-loop-at
invariant-loop-at l = (l.at ≤ length l.locals) × (last_at (is_named l.name) l.locals ≡ last_at (is_named l.name) (take l.at l.locals))

abbrev pub decreases-loop-at : goal.decreases-loop-at
decreases-loop-at l = l.at
