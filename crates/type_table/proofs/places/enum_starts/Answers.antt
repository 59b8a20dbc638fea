use Rattle.std.proofs.Common.{sym, ◌∙◌}
use Rattle.type_table.proofs.Parts.{starts_start}
use Rattle.type_table.proofs.places.enum_starts.Goals as goal

pub loop-item-init : goal.loop-item-init
loop-item-init c = c.new-out.ensures ∙ sym starts_start
