use Rattle.std.proofs.Common.{◌≡◌, arith, ap}
use Rattle.parse_base.proofs.Turns.{deeper}
use Rattle.parse_terms.specs.Types.{nested_type}
use Rattle.parse_terms.proofs.types.+types.Goals as goal

pub nested_type-returns-then-depth-eq0 : goal.nested_type-returns-then-depth-eq0
unfolding nested_type
nested_type-returns-then-depth-eq0 t c = let none : c.args.depth ≡ 0 = omega arith in ap (λ n. nested_type n c.args.tokens.now.rest.now) none

pub nested_type-returns : goal.nested_type-returns
unfolding nested_type
nested_type-returns t c = rw (deeper (λ n. nested_type n c.args.tokens.now.rest.now) c.args.depth (omega arith)) c.type_of.ensures
