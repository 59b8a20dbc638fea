use Rattle.type_expr.proofs.knot.+knot.Given as goal

abbrev pub decreases-check_to : goal.decreases-check_to
decreases-check_to l = l.room
