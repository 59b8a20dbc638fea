use Rattle.std.proofs.Common.{sym, ◌∙◌}
use Rattle.type_table.proofs.Parts.{preferences_start}
use Rattle.type_table.proofs.tables.preferences.Goals as goal

pub loop-at-init : goal.loop-at-init
loop-at-init c = c.new-out.ensures ∙ sym preferences_start
