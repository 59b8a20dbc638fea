use Rattle.std.proofs.Common.{◌≡◌, ◌-◌, [], codes, length}
use Rattle.parse_base.specs.Parser.{many}
use Rattle.parse_base.specs.Terminals.{label_ahead}
use Rattle.parse_expr.specs.Parse.{labelled_of, nested}
use Rattle.parse_expr.proofs.expressions.Grammar.more_closures.Given as goal

abbrev pub invariant-loop-turn : goal.invariant-loop-turn
invariant-loop-turn g l = many label_ahead (labelled_of l.self.total (nested l.self.total l.self.depth)) (length l.fn.tokens.rest.now) [] l.fn.tokens.rest.now ≡ many label_ahead (labelled_of l.self.total (nested l.self.total l.self.depth)) (length l.fn.tokens.rest.now - l._turn) l.found l.tokens.rest.now
