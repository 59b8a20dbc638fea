use Rattle.place_tests.proofs.walks.+is_nested.Given as goal

abbrev pub decreases-is_nested : goal.decreases-is_nested
decreases-is_nested l = l.lists
