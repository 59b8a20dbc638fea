use Rattle.std.proofs.Common.{◌≡◌, ◌<◌, ◌^◌, drop}
use Rattle.swift_lex.specs.Spellings.{hex_value}
use Rattle.swift_lex.proofs.text.hex_value.Given as goal

abbrev pub invariant-loop-b : goal.invariant-loop-b
invariant-loop-b l = (hex_value l.n (drop l.b-index l.bytes) ≡ hex_value 0 l.bytes) × (l.n < 17 ^ l.b-index)
