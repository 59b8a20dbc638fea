use Rattle.std.proofs.Common.{◌≡◌, drop}
use Rattle.value_calls.specs.Calls.{before_text, text_of_pieces, string_of, interpolated}
use Rattle.value_calls.proofs.texts.interpolate.Given as goal

-- what is there and the pieces to come are the whole string
abbrev pub invariant-loop-piece : goal.invariant-loop-piece
invariant-loop-piece l = string_of (before_text l.text (text_of_pieces (drop l.piece-index l.pieces))) ≡ interpolated l.pieces
