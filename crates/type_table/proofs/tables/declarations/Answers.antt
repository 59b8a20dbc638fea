use Rattle.std.proofs.Common.{sym, ◌∙◌}
use Rattle.type_table.proofs.Turns.{narrow-zero}
use Rattle.type_table.proofs.Parts.{declarations_start, first_start}
use Rattle.type_table.proofs.tables.declarations.Goals as goal

pub loop-piece-init : goal.loop-piece-init
loop-piece-init c = record { made = c.new-out.ensures ∙ sym (declarations_start c.args.heads.now); numbered = sym first_start; counted = sym narrow-zero }
