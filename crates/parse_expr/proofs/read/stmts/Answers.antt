use Rattle.parse_base.proofs.Readings.{reads_spelled, reads_all}
use Rattle.parse_expr.proofs.Knot.{stmts_whole}
use Rattle.parse_expr.proofs.read.stmts.Goals as goal

pub returns-clause-spelled : goal.returns-clause-spelled
returns-clause-spelled c = reads_spelled (stmts_whole c.args.total) c.args.tokens.now.rest.now _ _ c.whole_stmts.ensures

pub returns-clause-finds_all : goal.returns-clause-finds_all
returns-clause-finds_all c = reads_all (stmts_whole c.args.total) c.args.tokens.now.rest.now _ _ c.whole_stmts.ensures
