use Rattle.std.proofs.Common.{sym, ◌∙◌}
use Rattle.type_table.proofs.Turns.{narrow-zero}
use Rattle.type_table.proofs.Members.{struct_start}
use Rattle.type_table.proofs.signatures.struct_signatures.Goals as goal

pub loop-member-init : goal.loop-member-init
loop-member-init c = record {
  made = c.new-out.ensures ∙ sym (struct_start c.args.first c.args.heads.now c.args.sort c.args.members.now);
  counted = sym narrow-zero;
  slotted = sym narrow-zero;
}
