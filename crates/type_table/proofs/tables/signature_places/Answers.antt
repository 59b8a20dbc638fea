use Rattle.std.proofs.Common.{sym, ◌∙◌}
use Rattle.type_table.proofs.Turns.{places-none}
use Rattle.type_table.proofs.tables.signature_places.Goals as goal

pub loop-at-init : goal.loop-at-init
loop-at-init c = c.new-places.ensures.none ∙ sym places-none
