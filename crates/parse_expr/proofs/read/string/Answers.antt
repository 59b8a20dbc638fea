use Rattle.parse_base.proofs.Readings.{reads_spelled, reads_all}
use Rattle.parse_expr.proofs.Knot.{string_whole}
use Rattle.parse_expr.proofs.read.string.Goals as goal

pub returns-clause-spelled : goal.returns-clause-spelled
returns-clause-spelled c = reads_spelled (string_whole c.args.total) c.args.tokens.now.rest.now _ _ c.whole_string.ensures

pub returns-clause-finds_all : goal.returns-clause-finds_all
returns-clause-finds_all c = reads_all (string_whole c.args.total) c.args.tokens.now.rest.now _ _ c.whole_string.ensures
