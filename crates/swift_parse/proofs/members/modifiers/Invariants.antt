use Rattle.std.proofs.Common.{◌≡◌, ◌-◌, [], length}
use Rattle.parse_base.specs.Parser.{many}
use Rattle.swift_parse.specs.Parse.{begins_mod, modifier}
use Rattle.swift_parse.proofs.members.modifiers.Given as goal

abbrev pub invariant-loop-turn : goal.invariant-loop-turn
invariant-loop-turn l = many begins_mod modifier (length l.fn.tokens.rest.now) [] l.fn.tokens.rest.now ≡ many begins_mod modifier (length l.fn.tokens.rest.now - l._turn) l.found l.tokens.rest.now
