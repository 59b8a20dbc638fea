use Rattle.std.proofs.Common.{◌≡◌, ◌+◌, ◌≤◌, drop}
use Rattle.token_brackets.specs.PieceLength.{braced_len, outside}
use Rattle.token_brackets.proofs.pieces.braced_len.Given as goal

abbrev pub invariant-loop-i : goal.invariant-loop-i
invariant-loop-i l = record {
  length : braced_len outside l.tokens ≡ l.i + braced_len l.at (drop l.i l.tokens);
  fits : l.at.depth ≤ l.i;
}
