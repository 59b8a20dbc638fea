use Rattle.std.proofs.Common.{◌≡◌, ◌+◌, drop}
use Rattle.swift_lex.specs.Spellings.{run, is_digit}
use Rattle.swift_lex.proofs.text.hex_len.Given as goal

abbrev pub invariant-loop-b : goal.invariant-loop-b
invariant-loop-b l = (l.n ≡ l.b-index) × (run (is_digit 16) l.bytes ≡ l.n + run (is_digit 16) (drop l.b-index l.bytes))
