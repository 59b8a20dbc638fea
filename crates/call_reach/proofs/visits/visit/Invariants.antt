use Rattle.std.proofs.Common.{◌≡◌, drop}
use Rattle.call_reach.specs.Visits.{visit_marks, visit_work}
use Rattle.call_reach.proofs.visits.visit.Given as goal

abbrev pub invariant-loop-at : goal.invariant-loop-at
invariant-loop-at l = record {
  marks : visit_marks l.initial.marks.items l.all ≡ visit_marks l.marks.items (drop l.at-index l.all);
  work : visit_work l.initial.marks.items l.initial.work.items l.all ≡ visit_work l.marks.items l.work.items (drop l.at-index l.all);
}
