use Rattle.std.proofs.Common.{◌≡◌, length}
use Rattle.case_rules.specs.Cases.{has_default}
use Rattle.type_cases.proofs.complete.has_default.Given as goal

abbrev pub invariant-loop-label : goal.invariant-loop-label
invariant-loop-label l = has_default l.labels ≡ has_default l.left

abbrev pub decreases-loop-label : goal.decreases-loop-label
decreases-loop-label l = length l.left
