use Rattle.place_tests.specs.Walks.{candidates_are_all}
use Rattle.place_tests.proofs.laws.candidates_are_all.Goals as goal

pub returns : goal.returns
returns c = record { law = candidates_are_all }
