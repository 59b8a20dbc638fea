use Rattle.std.proofs.Common.{◌≡◌, ◌≤◌, ◌+◌, drop}
use Rattle.swift_lex.specs.Tokens.{moved}
use Rattle.swift_lex.proofs.place.moved.Given as goal

abbrev pub invariant-loop-b : goal.invariant-loop-b
invariant-loop-b l = record {
  value : moved (drop l.b-index l.bytes) l.at ≡ moved l.bytes l.fn.place;
  line : l.at.line ≤ l.fn.place.line + l.b-index;
  col : l.at.col ≤ l.fn.place.col + l.b-index;
  start : 1 ≤ l.at.col;
}
