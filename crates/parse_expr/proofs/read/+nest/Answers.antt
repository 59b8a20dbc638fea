use Rattle.std.proofs.Common.{◌≡◌, ◌-◌, arith, refl, ap}
use Rattle.parse_base.proofs.Turns.{deeper}
use Rattle.parse_expr.specs.Parse.{nested}
use Rattle.parse_expr.proofs.read.+nest.Goals as goal

pub nested_expr-returns-then-depth-eq0 : goal.nested_expr-returns-then-depth-eq0
unfolding nested
nested_expr-returns-then-depth-eq0 t c = let none : c.args.depth ≡ 0 = omega arith in ap (λ n. (nested c.args.total n).expr' c.args.tails c.args.links c.args.tokens.now.rest.now) none

pub nested_expr-returns : goal.nested_expr-returns
unfolding nested
nested_expr-returns t c = rw (deeper (λ n. (nested c.args.total n).expr' c.args.tails c.args.links c.args.tokens.now.rest.now) c.args.depth (omega arith)) c.expr_of.ensures

pub nested_stmts-returns-then-depth-eq0 : goal.nested_stmts-returns-then-depth-eq0
unfolding nested
nested_stmts-returns-then-depth-eq0 t c = let none : c.args.depth ≡ 0 = omega arith in ap (λ n. (nested c.args.total n).stmts' c.args.tokens.now.rest.now) none

pub nested_stmts-returns : goal.nested_stmts-returns
unfolding nested
nested_stmts-returns t c = rw (deeper (λ n. (nested c.args.total n).stmts' c.args.tokens.now.rest.now) c.args.depth (omega arith)) c.stmts_of.ensures
