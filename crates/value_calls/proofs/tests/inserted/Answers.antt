use Rattle.value_calls.specs.Answered.{insert_answers}
use Rattle.value_calls.proofs.tests.inserted.Goals as goal

pub insert-requires : goal.insert-requires
insert-requires c = insert_answers c.args.parts _ _
