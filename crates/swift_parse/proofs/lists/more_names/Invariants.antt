use Rattle.std.proofs.Common.{◌≡◌, ◌-◌, [], length, codes}
use Rattle.parse_base.specs.Parser.{both, made, many, starts, take_one}
use Rattle.parse_base.specs.Terminals.{a_name, a_sign}
use Rattle.swift_parse.proofs.lists.more_names.Given as goal

abbrev pub invariant-loop-turn : goal.invariant-loop-turn
invariant-loop-turn l =
    many (starts (a_sign (codes ","))) (made (λ x. x.1) (both (take_one (a_sign (codes ","))) (take_one a_name))) (length l.fn.tokens.rest.now) [] l.fn.tokens.rest.now
    ≡ many (starts (a_sign (codes ","))) (made (λ x. x.1) (both (take_one (a_sign (codes ","))) (take_one a_name))) (length l.fn.tokens.rest.now - l._turn) l.found l.tokens.rest.now
