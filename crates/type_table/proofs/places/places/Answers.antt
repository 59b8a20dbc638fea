use Rattle.std.proofs.Common.{sym, ◌∙◌}
use Rattle.type_table.proofs.Turns.{narrow-zero}
use Rattle.type_table.proofs.Parts.{pieces_start, first_key_start}
use Rattle.type_table.proofs.places.places.Goals as goal

pub loop-piece-init : goal.loop-piece-init
loop-piece-init c = record { made = c.new-out.ensures ∙ sym pieces_start; counted = sym narrow-zero; keyed = sym first_key_start }
