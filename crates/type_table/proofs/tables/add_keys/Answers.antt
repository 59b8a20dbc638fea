use Rattle.std.proofs.Common.{sym, ap, ◌∙◌, ◌++◌, append-nil}
use Rattle.type_table.proofs.Parts.{keys_start}
use Rattle.type_table.proofs.tables.add_keys.Goals as goal

pub loop-at-init : goal.loop-at-init
loop-at-init c = sym (ap (λ ks. c.args.out.now ++ ks) (keys_start c.args.heads.now c.args.first) ∙ append-nil c.args.out.now)
