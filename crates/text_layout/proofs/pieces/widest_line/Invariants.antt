use Rattle.std.proofs.Common.{◌≡◌, ◌≤◌, drop}
use Rattle.std.specs.Prelude.{min, max}
use Rattle.text_layout.specs.Lines.{widest_of}
use Rattle.text_layout.proofs.pieces.widest_line.Given as goal

abbrev pub invariant-loop-line : goal.invariant-loop-line
invariant-loop-line l = record {
  within : l.widest ≤ 1000000;
  told : min (max l.widest (widest_of (drop l.line-index l.lines))) 1000000 ≡ min (widest_of l.lines) 1000000;
}
