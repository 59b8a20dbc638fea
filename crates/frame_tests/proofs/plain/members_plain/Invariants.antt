use Rattle.frame_tests.proofs.Runs.{MembersBefore}
use Rattle.frame_tests.proofs.plain.members_plain.Given as goal

abbrev pub invariant-loop-i : goal.invariant-loop-i
invariant-loop-i l = MembersBefore l.table l.frame l.members l.i
