use Rattle.std.proofs.Common.{◌≢◌, ◌↔◌, length}
use Rattle.std.specs.List.{AllByRecursion}
use Rattle.view_tree.proofs.limits.is_apart.Given as goal

abbrev pub invariant-loop-rest : goal.invariant-loop-rest
invariant-loop-rest l = AllByRecursion (λ other. l.name ≢ other) l.initial.rest ↔ AllByRecursion (λ other. l.name ≢ other) l.rest

abbrev pub decreases-loop-rest : goal.decreases-loop-rest
decreases-loop-rest l = length l.rest
