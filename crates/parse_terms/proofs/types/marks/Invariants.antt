use Rattle.std.proofs.Common.{◌≡◌, ◌-◌, codes}
use Rattle.parse_base.specs.Parser.{counted, starts, take_one}
use Rattle.parse_base.specs.Terminals.{a_sign}
use Rattle.parse_terms.specs.Words.{max_links}
use Rattle.parse_terms.proofs.types.marks.Given as goal

abbrev pub invariant-loop-turn : goal.invariant-loop-turn
invariant-loop-turn l =
    (counted (starts (a_sign (codes "?"))) (take_one (a_sign (codes "?"))) max_links 0 l.fn.tokens.rest.now ≡ counted (starts (a_sign (codes "?"))) (take_one (a_sign (codes "?"))) (max_links - l._turn) l.found l.tokens.rest.now)
    × (l.found ≡ l._turn)
