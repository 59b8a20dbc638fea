use Rattle.frame_tests.proofs.Tested.{frames_are_tested}
use Rattle.frame_tests.proofs.laws.frames_are_tested.Goals as goal

pub returns : goal.returns
returns c = record { law = frames_are_tested }
