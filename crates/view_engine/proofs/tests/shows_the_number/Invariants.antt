use Rattle.view_engine.proofs.tests.shows_the_number.Given as goal

abbrev pub ghosts-tapped-B-Ledger : goal.ghosts-tapped-B-Ledger
ghosts-tapped-B-Ledger g a = record { name = a.bodies.name; parts = a.bodies.parts }

abbrev pub ghosts-tapped-V-Ledger : goal.ghosts-tapped-V-Ledger
ghosts-tapped-V-Ledger g a = record { name = a.visits.name; parts = a.visits.parts }
