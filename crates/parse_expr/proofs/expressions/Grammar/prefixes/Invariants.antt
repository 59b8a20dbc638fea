use Rattle.std.proofs.Common.{◌≡◌, ◌-◌, [], codes, length}
use Rattle.parse_base.specs.Parser.{many, starts, take_one}
use Rattle.parse_terms.specs.Words.{a_prefix, max_links}
use Rattle.parse_expr.proofs.expressions.Grammar.prefixes.Given as goal

abbrev pub invariant-loop-turn : goal.invariant-loop-turn
invariant-loop-turn g l = many (starts a_prefix) (take_one a_prefix) max_links [] l.fn.tokens.rest.now ≡ many (starts a_prefix) (take_one a_prefix) (max_links - l._turn) l.found l.tokens.rest.now
