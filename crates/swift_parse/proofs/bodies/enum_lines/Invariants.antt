use Rattle.std.proofs.Common.{◌≡◌, ◌-◌, [], length}
use Rattle.parse_base.specs.Parser.{many}
use Rattle.swift_parse.specs.Below.{parsers}
use Rattle.swift_parse.specs.Parse.{begins_enum_line, enum_line}
use Rattle.swift_parse.proofs.bodies.enum_lines.Given as goal

abbrev pub invariant-loop-turn : goal.invariant-loop-turn
invariant-loop-turn l =
    many begins_enum_line (enum_line l.total (parsers l.total)) (length l.fn.tokens.rest.now) [] l.fn.tokens.rest.now
    ≡ many begins_enum_line (enum_line l.total (parsers l.total)) (length l.fn.tokens.rest.now - l._turn) l.found l.tokens.rest.now
