use Rattle.parse_base.proofs.Readings.{reads_spelled, reads_all}
use Rattle.parse_terms.proofs.PatternLaws.{pattern_exact}
use Rattle.parse_terms.proofs.patterns.pattern.Goals as goal

pub returns-clause-spelled : goal.returns-clause-spelled
returns-clause-spelled c = reads_spelled pattern_exact c.args.tokens.now.rest.now _ _ c.any_pattern.ensures

pub returns-clause-finds_all : goal.returns-clause-finds_all
returns-clause-finds_all c = reads_all pattern_exact c.args.tokens.now.rest.now _ _ c.any_pattern.ensures
