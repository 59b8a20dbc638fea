use Rattle.std.proofs.Common.{sym, ap, ◌∙◌, ◌++◌, append-nil}
use Rattle.type_table.proofs.Parts.{places_start}
use Rattle.type_table.proofs.places.add_members.Goals as goal

pub loop-at-init : goal.loop-at-init
loop-at-init c = sym (ap (λ ks. c.args.out.now ++ ks) (places_start c.args.declaration) ∙ append-nil c.args.out.now)
