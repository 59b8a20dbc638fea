use Rattle.value_calls.specs.Answered.{describe_answers}
use Rattle.value_calls.proofs.tests.described.Goals as goal

pub operate_one-requires : goal.operate_one-requires
operate_one-requires c = describe_answers _
