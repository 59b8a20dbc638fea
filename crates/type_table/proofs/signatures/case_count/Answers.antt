use Rattle.std.proofs.Common.{sym}
use Rattle.type_table.proofs.Turns.{narrow-zero}
use Rattle.type_table.proofs.signatures.case_count.Goals as goal

pub loop-item-init : goal.loop-item-init
loop-item-init c = sym narrow-zero
