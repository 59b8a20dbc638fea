use Rattle.std.proofs.Common.{arith}
use Rattle.type_stmt.proofs.Turns.{finds_opened}
use Rattle.type_stmt.proofs.knot.+knot.Goals as goal

pub returns : goal.returns
returns t c = record { found = finds_opened c.args.room c.args.stmt.now _ c.args.exits _ _ _ (omega arith) c.form_of.ensures.found }
