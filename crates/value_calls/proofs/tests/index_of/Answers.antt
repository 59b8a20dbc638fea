use Rattle.value_calls.specs.Answered.{first_index_answers}
use Rattle.value_calls.proofs.tests.index_of.Goals as goal

pub first_index-requires : goal.first_index-requires
first_index-requires c = first_index_answers c.args.parts _
