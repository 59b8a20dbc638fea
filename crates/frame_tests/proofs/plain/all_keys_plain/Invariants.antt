use Rattle.frame_tests.proofs.Runs.{KeysBefore}
use Rattle.frame_tests.proofs.plain.all_keys_plain.Given as goal

abbrev pub invariant-loop-i : goal.invariant-loop-i
invariant-loop-i l = KeysBefore l.table l.frame l.keys l.i
