use Rattle.parse_base.proofs.Readings.{spells_one}
use Rattle.parse_expr.proofs.Knot.{expr_whole}
use Rattle.parse_expr.proofs.laws.one_expr.Goals as goal

pub returns : goal.returns
returns c = spells_one (expr_whole c.args.total)
