use Rattle.parse_base.proofs.Readings.{reads_spelled, reads_all}
use Rattle.parse_expr.proofs.Knot.{expr_whole}
use Rattle.parse_expr.proofs.read.expr.Goals as goal

pub returns-clause-spelled : goal.returns-clause-spelled
returns-clause-spelled c = reads_spelled (expr_whole c.args.total) c.args.tokens.now.rest.now _ _ c.whole_expr.ensures

pub returns-clause-finds_all : goal.returns-clause-finds_all
returns-clause-finds_all c = reads_all (expr_whole c.args.total) c.args.tokens.now.rest.now _ _ c.whole_expr.ensures
