use Rattle.place_tests.specs.Walks.{walks_are_right}
use Rattle.place_tests.proofs.laws.walks_are_right.Goals as goal

pub returns : goal.returns
returns c = record { law = walks_are_right }
