use Rattle.std.proofs.Common.{◌≡◌, ◌++◌, suc, length}
use Rattle.std.specs.Prelude.{map}
use Rattle.text_layout.specs.Cuts.{rows_up_to, cut_rows}
use Rattle.text_layout.specs.CutLines.{row_of}
use Rattle.text_layout.proofs.cutting.cut.Given as goal

abbrev pub invariant-loop-rest : goal.invariant-loop-rest
invariant-loop-rest l = map row_of l.rows.items ++ rows_up_to (suc (length l.rest)) l.width l.rest ≡ map row_of l.fn.rows.items ++ cut_rows l.width l.fn.paragraph

abbrev pub decreases-loop-rest : goal.decreases-loop-rest
decreases-loop-rest l = length l.rest
