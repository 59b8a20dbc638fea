use Rattle.std.proofs.Common.{◌≡◌, ◌+◌, ◌-◌, [], length}
use Rattle.std.specs.String.{string_bytes}
use Rattle.swift_lex.specs.Spellings.{text_from}
use Rattle.swift_lex.proofs.text.text.Given as goal

abbrev pub invariant-loop-turn : goal.invariant-loop-turn
invariant-loop-turn l = (text_from (length l.bytes) [] 0 l.bytes ≡ text_from (length l.bytes - l._turn) (string_bytes l.meant) l.at l.rest) × (l.at + length l.rest ≡ length l.bytes)
