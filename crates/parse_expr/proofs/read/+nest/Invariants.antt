use Rattle.parse_expr.proofs.read.+nest.Given as goal

abbrev pub decreases-nested_expr : goal.decreases-nested_expr
decreases-nested_expr l = l.depth

abbrev pub decreases-nested_stmts : goal.decreases-nested_stmts
decreases-nested_stmts l = l.depth
