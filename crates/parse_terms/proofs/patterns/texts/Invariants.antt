use Rattle.std.proofs.Common.{◌≡◌, ◌-◌, [], length}
use Rattle.parse_base.specs.Parser.{many, starts, take_one}
use Rattle.parse_base.specs.Terminals.{a_text}
use Rattle.parse_terms.proofs.patterns.texts.Given as goal

abbrev pub invariant-loop-turn : goal.invariant-loop-turn
invariant-loop-turn l = many (starts a_text) (take_one a_text) (length l.fn.tokens.rest.now) [] l.fn.tokens.rest.now ≡ many (starts a_text) (take_one a_text) (length l.fn.tokens.rest.now - l._turn) l.found l.tokens.rest.now
