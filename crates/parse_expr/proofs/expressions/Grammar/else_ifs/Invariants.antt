use Rattle.std.proofs.Common.{◌≡◌, ◌-◌, [], codes, length}
use Rattle.parse_base.specs.Parser.{many}
use Rattle.parse_terms.specs.Words.{max_links}
use Rattle.parse_expr.specs.Tests.{else_if}
use Rattle.parse_expr.specs.Parse.{else_if_of, nested}
use Rattle.parse_expr.proofs.expressions.Grammar.else_ifs.Given as goal

abbrev pub invariant-loop-turn : goal.invariant-loop-turn
invariant-loop-turn g l = many else_if (else_if_of l.self.total (nested l.self.total l.self.depth)) max_links [] l.fn.tokens.rest.now ≡ many else_if (else_if_of l.self.total (nested l.self.total l.self.depth)) (max_links - l._turn) l.found l.tokens.rest.now
