use Rattle.std.proofs.Common.{◌≡◌, ◌++◌, length}
use Rattle.core_means.specs.Means.{held}
use Rattle.eval_terms.proofs.calls.held.Given as goal

-- what is held and what is still to be are the whole
abbrev pub invariant-loop-rest : goal.invariant-loop-rest
invariant-loop-rest l = l.locals ++ held l.rest ≡ held l.initial.rest

abbrev pub decreases-loop-rest : goal.decreases-loop-rest
decreases-loop-rest l = length l.rest
