use Rattle.parse_base.proofs.Readings.{spells_one}
use Rattle.parse_expr.proofs.Knot.{stmts_whole}
use Rattle.parse_expr.proofs.laws.one_list_of_stmts.Goals as goal

pub returns : goal.returns
returns c = spells_one (stmts_whole c.args.total)
