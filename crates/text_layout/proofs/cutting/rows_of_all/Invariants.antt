use Rattle.std.proofs.Common.{◌≡◌, ◌++◌, drop, flat_map}
use Rattle.std.specs.Prelude.{map}
use Rattle.text_layout.specs.CutLines.{row_of}
use Rattle.text_layout.specs.Lines.{rows_of}
use Rattle.text_layout.proofs.cutting.rows_of_all.Given as goal

abbrev pub invariant-loop-paragraph : goal.invariant-loop-paragraph
invariant-loop-paragraph l = map row_of l.rows.items ++ flat_map (rows_of l.width) (drop l.paragraph-index l.paragraphs) ≡ flat_map (rows_of l.width) l.paragraphs
