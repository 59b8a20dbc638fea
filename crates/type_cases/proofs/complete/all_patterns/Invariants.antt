use Rattle.std.proofs.Common.{◌≡◌, ◌++◌, length}
use Rattle.case_rules.specs.Cases.{all_patterns}
use Rattle.type_cases.proofs.complete.all_patterns.Given as goal

abbrev pub invariant-loop-label : goal.invariant-loop-label
invariant-loop-label l = l.values ++ all_patterns l.left ≡ all_patterns l.labels

abbrev pub decreases-loop-label : goal.decreases-loop-label
decreases-loop-label l = length l.left
