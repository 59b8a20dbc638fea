use Rattle.std.proofs.Common.{◌≡◌, ◌+◌, drop}
use Rattle.swift_lex.specs.Spellings.{run, is_name_byte}
use Rattle.swift_lex.proofs.names.name_len.Given as goal

abbrev pub invariant-loop-b : goal.invariant-loop-b
invariant-loop-b l = (l.n ≡ l.b-index) × (run is_name_byte l.bytes ≡ l.n + run is_name_byte (drop l.b-index l.bytes))
