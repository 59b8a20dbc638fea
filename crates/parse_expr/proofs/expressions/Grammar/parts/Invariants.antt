use Rattle.std.proofs.Common.{◌≡◌, ◌-◌, [], codes, length}
use Rattle.parse_base.specs.Parser.{many}
use Rattle.parse_terms.specs.Words.{max_links}
use Rattle.parse_expr.specs.Tests.{goes_on}
use Rattle.parse_expr.specs.Parse.{part_of, nested}
use Rattle.parse_expr.proofs.expressions.Grammar.parts.Given as goal

abbrev pub invariant-loop-turn : goal.invariant-loop-turn
invariant-loop-turn g l = many (goes_on l.tails) (part_of l.self.total (nested l.self.total l.self.depth) l.tails) max_links [] l.fn.tokens.rest.now ≡ many (goes_on l.tails) (part_of l.self.total (nested l.self.total l.self.depth) l.tails) (max_links - l._turn) l.found l.tokens.rest.now
