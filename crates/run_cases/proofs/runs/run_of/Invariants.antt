use Rattle.run_cases.proofs.runs.run_of.Given as goal

abbrev pub ghosts-described : goal.ghosts-described
ghosts-described a = record { name = a.blank.name; parts = a.blank.parts }
