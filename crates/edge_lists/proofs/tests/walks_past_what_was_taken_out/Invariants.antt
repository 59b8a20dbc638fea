use Rattle.edge_lists.proofs.tests.walks_past_what_was_taken_out.Given as goal

abbrev pub ghosts-with_one_out : goal.ghosts-with_one_out
ghosts-with_one_out g a = record { name = a.blank.name; parts = a.blank.parts }
