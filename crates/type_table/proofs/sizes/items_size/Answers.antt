use Rattle.std.proofs.Common.{sym, ◌∙◌}
use Rattle.type_table.proofs.Turns.{wide-zero}
use Rattle.type_table.proofs.sizes.items_size.Goals as goal

pub loop-item-init : goal.loop-item-init
loop-item-init c = sym wide-zero
