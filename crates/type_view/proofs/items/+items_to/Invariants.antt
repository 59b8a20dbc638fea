use Rattle.type_view.proofs.items.+items_to.Given as goal

abbrev pub decreases-items_to : goal.decreases-items_to
decreases-items_to l = l.room
