use Rattle.value_calls.specs.Answered.{interpolate_answers}
use Rattle.value_calls.proofs.tests.joined_pieces.Goals as goal

pub interpolate-requires : goal.interpolate-requires
interpolate-requires c = interpolate_answers _ _
