use Rattle.value_calls.specs.Answered.{append_answers}
use Rattle.value_calls.proofs.tests.longer.Goals as goal

pub append-requires : goal.append-requires
append-requires c = append_answers c.args.parts _
