use Rattle.std.proofs.Common.{◌+◌, ◌≤◌, length}
use Rattle.swift_parse.proofs.Files.{Going}
use Rattle.swift_parse.proofs.file.pieces.Given as goal

abbrev pub invariant-loop-turn : goal.invariant-loop-turn
invariant-loop-turn l = record {
  going : Going l.tokens l.before l.rest l.found;
  left : length l.rest + l._turn ≤ length l.tokens;
}
