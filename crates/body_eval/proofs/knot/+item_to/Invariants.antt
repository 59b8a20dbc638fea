use Rattle.body_eval.proofs.knot.+item_to.Given as goal

abbrev pub decreases-item_to : goal.decreases-item_to
decreases-item_to g l = l.room
