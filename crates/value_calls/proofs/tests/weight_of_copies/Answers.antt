use Rattle.value_calls.specs.Answered.{repeat_answers}
use Rattle.value_calls.proofs.tests.weight_of_copies.Goals as goal

pub repeat_text-requires : goal.repeat_text-requires
repeat_text-requires c = repeat_answers _ _
