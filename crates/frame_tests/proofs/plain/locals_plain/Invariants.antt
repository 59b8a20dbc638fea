use Rattle.frame_tests.proofs.Runs.{LocalsBefore}
use Rattle.frame_tests.proofs.plain.locals_plain.Given as goal

abbrev pub invariant-loop-i : goal.invariant-loop-i
invariant-loop-i l = LocalsBefore l.table l.types l.locals l.i
