use Rattle.std.proofs.Common.{◌≡◌, ◌++◌, drop}
use Rattle.std.specs.Prelude.{map}
use Rattle.text_layout.specs.CutLines.{row_of}
use Rattle.text_layout.specs.Lines.{line_of}
use Rattle.text_layout.proofs.limiting.copy_rows.Given as goal

abbrev pub invariant-loop-row : goal.invariant-loop-row
invariant-loop-row l = l.lines.items ++ map line_of (map row_of (drop l.row-index l.rows)) ≡ map line_of (map row_of l.rows)
