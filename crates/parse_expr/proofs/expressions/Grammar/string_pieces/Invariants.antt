use Rattle.std.proofs.Common.{◌≡◌, ◌-◌, [], codes, length}
use Rattle.parse_base.specs.Parser.{many}
use Rattle.parse_expr.specs.Tests.{string_goes_on}
use Rattle.parse_expr.specs.Parse.{string_piece, nested}
use Rattle.parse_expr.proofs.expressions.Grammar.string_pieces.Given as goal

abbrev pub invariant-loop-turn : goal.invariant-loop-turn
invariant-loop-turn g l = many string_goes_on (string_piece l.self.total (nested l.self.total l.self.depth) l.tails) (length l.fn.tokens.rest.now) [] l.fn.tokens.rest.now ≡ many string_goes_on (string_piece l.self.total (nested l.self.total l.self.depth) l.tails) (length l.fn.tokens.rest.now - l._turn) l.found l.tokens.rest.now
