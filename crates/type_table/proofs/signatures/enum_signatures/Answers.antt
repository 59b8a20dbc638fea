use Rattle.std.proofs.Common.{sym, ◌∙◌}
use Rattle.type_table.proofs.Turns.{narrow-zero}
use Rattle.type_table.proofs.Members.{enum_start}
use Rattle.type_table.proofs.signatures.enum_signatures.Goals as goal

pub loop-item-init : goal.loop-item-init
loop-item-init c = record {
  made = c.new-out.ensures ∙ sym (enum_start c.args.first c.args.heads.now c.args.items.now);
  counted = sym narrow-zero;
}
