use Rattle.std.proofs.Common.{sym, ◌∙◌}
use Rattle.type_table.proofs.Parts.{environment_start, first_start}
use Rattle.type_table.proofs.tables.environment.Goals as goal

pub loop-piece-init : goal.loop-piece-init
loop-piece-init c = record { made = c.in_ok-out.ensures ∙ sym (environment_start c.args.heads.now); numbered = sym first_start }
