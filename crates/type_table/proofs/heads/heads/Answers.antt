use Rattle.std.proofs.Common.{sym, ◌∙◌}
use Rattle.type_table.proofs.Turns.{narrow-zero}
use Rattle.type_table.proofs.Pieces.{heads_start}
use Rattle.type_table.proofs.heads.heads.Goals as goal

pub loop-piece-init : goal.loop-piece-init
loop-piece-init c = record { made = c.new-out.ensures ∙ sym heads_start; counted = sym narrow-zero }
