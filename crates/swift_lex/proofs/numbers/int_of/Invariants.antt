use Rattle.std.proofs.Common.{◌≡◌, ◌≤◌, drop}
use Rattle.swift_lex.specs.Spellings.{value_from, max_int}
use Rattle.swift_lex.proofs.numbers.int_of.Given as goal

abbrev pub invariant-loop-b : goal.invariant-loop-b
invariant-loop-b l = (value_from l.base l.n (drop l.b-index l.bytes) ≡ value_from l.base 0 l.bytes) × (l.n ≤ max_int)
