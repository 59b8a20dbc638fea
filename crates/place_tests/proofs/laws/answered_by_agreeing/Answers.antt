use Rattle.place_tests.specs.Demands.{agreeing_is_answered}
use Rattle.place_tests.proofs.laws.answered_by_agreeing.Goals as goal

pub returns : goal.returns
returns c = record { law = agreeing_is_answered }
