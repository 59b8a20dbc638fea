use Rattle.std.proofs.Common.{◌≡◌, [], ◌-◌, ◌*◌}
use Rattle.parse_base.specs.Parser.{many, starts}
use Rattle.parse_terms.specs.Words.{an_op, limit}
use Rattle.parse_expr.specs.Parse.{nested}
use Rattle.parse_expr.specs.Ladder.{link_at}
use Rattle.parse_expr.proofs.expressions.Grammar.+ladder.Given as goal

abbrev pub decreases-level : goal.decreases-level
decreases-level g l = 3 * l.k

abbrev pub decreases-link : goal.decreases-link
decreases-link g l = 3 * l.k - 2

abbrev pub decreases-links : goal.decreases-links
decreases-links g l = 3 * l.k - 1

abbrev pub invariant-links-loop-turn : goal.invariant-links-loop-turn
invariant-links-loop-turn g l =
    many (starts (an_op l.k)) (link_at l.self.total (nested l.self.total l.self.depth) l.tails l.k) (limit l.k) [] l.fn.tokens.rest.now ≡ many (starts (an_op l.k)) (link_at l.self.total (nested l.self.total l.self.depth) l.tails l.k) (l._turn-end - l._turn) l.found l.tokens.rest.now
