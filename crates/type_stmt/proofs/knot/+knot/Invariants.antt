use Rattle.type_stmt.proofs.knot.+knot.Given as goal

abbrev pub decreases-run_to : goal.decreases-run_to
decreases-run_to l = l.room
