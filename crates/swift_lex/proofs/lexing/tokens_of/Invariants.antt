use Rattle.std.proofs.Common.{◌≡◌, ◌≤◌, ◌+◌, ◌-◌, length}
use Rattle.swift_lex.specs.Tokens.{tokens_of}
use Rattle.swift_lex.proofs.LexTurns.{lex_from}
use Rattle.swift_lex.proofs.lexing.tokens_of.Given as goal

abbrev pub invariant-loop-turn : goal.invariant-loop-turn
invariant-loop-turn l = record {
  same : tokens_of l.fn.text ≡ lex_from (length l.fn.text + 1 - l._turn) l.brackets l.in_text l.place l.rest l.found.items;
  line : l.place.line + length l.rest ≤ length l.fn.text + 1;
  col : l.place.col + length l.rest ≤ length l.fn.text + 1;
  start : 1 ≤ l.place.col;
}
