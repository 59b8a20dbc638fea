use Rattle.std.proofs.Common.{◌≡◌, ◌-◌, [], codes, length}
use Rattle.parse_base.specs.Parser.{many, starts, made, both, take_one}
use Rattle.parse_base.specs.Terminals.{a_sign}
use Rattle.parse_expr.specs.Parse.{condition_of, nested}
use Rattle.parse_expr.proofs.expressions.Grammar.more_conditions.Given as goal

abbrev pub invariant-loop-turn : goal.invariant-loop-turn
invariant-loop-turn g l = many (starts (a_sign (codes ","))) (made (λ x. x.1) (both (take_one (a_sign (codes ","))) (condition_of l.self.total (nested l.self.total l.self.depth)))) (length l.fn.tokens.rest.now) [] l.fn.tokens.rest.now ≡ many (starts (a_sign (codes ","))) (made (λ x. x.1) (both (take_one (a_sign (codes ","))) (condition_of l.self.total (nested l.self.total l.self.depth)))) (length l.fn.tokens.rest.now - l._turn) l.found l.tokens.rest.now
