use Rattle.std.proofs.Common.{◌≡◌, length}
use Rattle.core_means.specs.Public.{placed}
use Rattle.expr_eval.proofs.locals.place.Given as goal

abbrev pub invariant-loop-places : goal.invariant-loop-places
invariant-loop-places l = placed l.locals l.places l.rest ≡ placed l.initial.locals l.initial.places l.initial.rest

abbrev pub decreases-loop-places : goal.decreases-loop-places
decreases-loop-places l = length l.places
