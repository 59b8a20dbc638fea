use Rattle.expr_eval.proofs.knot.+forms.Given as goal

abbrev pub decreases-eval_to : goal.decreases-eval_to
decreases-eval_to g l = l.room

abbrev pub decreases-exec_to : goal.decreases-exec_to
decreases-exec_to g l = l.room
