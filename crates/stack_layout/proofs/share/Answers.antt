use Rattle.std.proofs.Common.{◌<◌, subst, sym}
use Rattle.stack_layout.proofs.Offers.{group_some}
use Rattle.stack_layout.proofs.share.Goals as goal

pub nonzero_div-floor : goal.nonzero_div-floor
nonzero_div-floor c = subst (λ n. 0 < n) (sym c.group_size-group.ensures) (group_some _ c.args.slots.now c.requires.some)
