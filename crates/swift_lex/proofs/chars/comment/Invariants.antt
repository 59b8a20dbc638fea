use Rattle.std.proofs.Common.{◌≡◌, ◌≤◌, ◌-◌, drop, length}
use Rattle.swift_lex.specs.Spellings.{comment, more}
use Rattle.swift_lex.proofs.chars.comment.Given as goal

abbrev pub invariant-loop-at : goal.invariant-loop-at
invariant-loop-at l = (comment 0 l.bytes ≡ more l.at (comment l.depth (drop l.at l.bytes))) × (l.depth ≤ l.at) × (l.at ≤ length l.bytes)

abbrev pub decreases-loop-at : goal.decreases-loop-at
decreases-loop-at l = length l.bytes - l.at
