use Rattle.std.proofs.Common.{◌≡◌, ◌-◌, [], length, codes}
use Rattle.parse_base.specs.Parser.{many, starts}
use Rattle.parse_base.specs.Terminals.{an_attribute}
use Rattle.swift_parse.specs.Below.{parsers}
use Rattle.swift_parse.specs.Parse.{entry_line}
use Rattle.swift_parse.proofs.bodies.entry_lines.Given as goal

abbrev pub invariant-loop-turn : goal.invariant-loop-turn
invariant-loop-turn l =
    many (starts (an_attribute (codes "@Entry"))) (entry_line l.total (parsers l.total)) (length l.fn.tokens.rest.now) [] l.fn.tokens.rest.now
    ≡ many (starts (an_attribute (codes "@Entry"))) (entry_line l.total (parsers l.total)) (length l.fn.tokens.rest.now - l._turn) l.found l.tokens.rest.now
