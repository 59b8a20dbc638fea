use Rattle.std.proofs.Common.{◌≡◌, ◌++◌, length}
use Rattle.core_means.specs.Public.{holding}
use Rattle.expr_eval.proofs.locals.hold.Given as goal

abbrev pub invariant-loop-rest : goal.invariant-loop-rest
invariant-loop-rest l = l.locals ++ holding l.rest ≡ l.initial.locals ++ holding l.initial.rest

abbrev pub decreases-loop-rest : goal.decreases-loop-rest
decreases-loop-rest l = length l.rest
