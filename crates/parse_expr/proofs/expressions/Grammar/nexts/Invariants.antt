use Rattle.std.proofs.Common.{◌≡◌, ◌-◌, [], codes, length}
use Rattle.parse_base.specs.Parser.{many}
use Rattle.parse_expr.specs.Tests.{next_stmt}
use Rattle.parse_expr.specs.Parse.{next_of, nested}
use Rattle.parse_expr.proofs.expressions.Grammar.nexts.Given as goal

abbrev pub invariant-loop-turn : goal.invariant-loop-turn
invariant-loop-turn g l = many next_stmt (next_of l.self.total (nested l.self.total l.self.depth)) (length l.fn.tokens.rest.now) [] l.fn.tokens.rest.now ≡ many next_stmt (next_of l.self.total (nested l.self.total l.self.depth)) (length l.fn.tokens.rest.now - l._turn) l.found l.tokens.rest.now
