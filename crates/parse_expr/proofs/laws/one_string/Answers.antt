use Rattle.parse_base.proofs.Readings.{spells_one}
use Rattle.parse_expr.proofs.Knot.{string_whole}
use Rattle.parse_expr.proofs.laws.one_string.Goals as goal

pub returns : goal.returns
returns c = spells_one (string_whole c.args.total)
