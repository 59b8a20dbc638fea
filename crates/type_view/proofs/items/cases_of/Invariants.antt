use Rattle.type_view.proofs.Pairs.{Paired}
use Rattle.type_view.proofs.items.cases_of.Given as goal

abbrev pub invariant-loop-at : goal.invariant-loop-at
invariant-loop-at l = Paired l.fn.labels l.fn.bodies l.at l.labels l.bodies l.done
