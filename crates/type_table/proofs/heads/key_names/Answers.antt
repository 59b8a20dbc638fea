use Rattle.std.proofs.Common.{sym, ◌∙◌}
use Rattle.type_table.proofs.Pieces.{names_start}
use Rattle.type_table.proofs.heads.key_names.Goals as goal

pub loop-piece-init : goal.loop-piece-init
loop-piece-init c = c.in_ok-out.ensures ∙ sym names_start
