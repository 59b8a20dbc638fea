use Rattle.std.proofs.Common.{arith}
use Rattle.place_tests.proofs.Nests.{some_list}
use Rattle.place_tests.proofs.nested.has_nested.Goals as goal

pub returns-else-lists-eq0 : goal.returns-else-lists-eq0
returns-else-lists-eq0 c = record { value = some_list c.args.table.now c.args.lists c.args.base.now c.args.value.now c.list_has.result (omega arith) c.list_has.ensures.value }
