use Rattle.std.proofs.Common.{◌≡◌, ◌+◌, ◌-◌, length}
use Rattle.swift_lex.specs.Spellings.{chars_from}
use Rattle.swift_lex.proofs.chars.chars_len.Given as goal

abbrev pub invariant-loop-turn : goal.invariant-loop-turn
invariant-loop-turn l = (chars_from l.in_line (length l.bytes) 0 l.bytes ≡ chars_from l.in_line (length l.bytes - l._turn) l.at l.rest) × (l.at + length l.rest ≡ length l.bytes)
