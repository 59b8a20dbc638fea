use Rattle.std.proofs.Common.{◌≡◌}
use Rattle.view_engine.specs.Joined.{joined}
use Rattle.view_engine.specs.Counter.{row_of}
use Rattle.view_engine.proofs.paint.paint.Given as goal

abbrev pub invariant-loop-y : goal.invariant-loop-y
invariant-loop-y l = l.cells.items ≡ joined (row_of l.above.items l.below.items) l.y
