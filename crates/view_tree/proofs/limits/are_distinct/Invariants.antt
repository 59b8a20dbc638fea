use Rattle.std.proofs.Common.{◌↔◌, length}
use Rattle.view_tree.specs.Trees.{AreDistinct}
use Rattle.view_tree.proofs.limits.are_distinct.Given as goal

abbrev pub invariant-loop-rest : goal.invariant-loop-rest
invariant-loop-rest l = AreDistinct l.initial.rest ↔ AreDistinct l.rest

abbrev pub decreases-loop-rest : goal.decreases-loop-rest
decreases-loop-rest l = length l.rest
