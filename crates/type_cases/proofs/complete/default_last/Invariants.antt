use Rattle.std.proofs.Common.{◌≡◌, length}
use Rattle.case_rules.specs.Cases.{default_last}
use Rattle.type_cases.proofs.complete.default_last.Given as goal

abbrev pub invariant-loop-label : goal.invariant-loop-label
invariant-loop-label l = default_last l.labels ≡ default_last l.left

abbrev pub decreases-loop-label : goal.decreases-loop-label
decreases-loop-label l = length l.left
