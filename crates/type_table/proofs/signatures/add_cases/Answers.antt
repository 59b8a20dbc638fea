use Rattle.std.proofs.Common.{sym}
use Rattle.type_table.proofs.Members.{cases_start}
use Rattle.type_table.proofs.signatures.add_cases.Goals as goal

pub loop-at-init : goal.loop-at-init
loop-at-init c = sym (cases_start c.args.first c.args.cases c.args.out.now c.args.names.now)
