use Rattle.value_tests.proofs.Levels.{level}
use Rattle.value_tests.proofs.has.has_value.Goals as goal

pub returns : goal.returns
returns c = record { value = level c.args.table.now c.args.ty.now c.args.value.now c.has.result c.has.ensures.value }
