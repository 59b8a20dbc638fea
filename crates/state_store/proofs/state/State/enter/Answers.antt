use Rattle.std.proofs.Common.{◌≡◌, None, ap, ◌∙◌, arith}
use Rattle.std.specs.FinMap as fin
use Rattle.identity_path.specs.Cells.{total_of, cells_weight}
use Rattle.identity_path.specs.Totals.{total_of-insert_new}
use Rattle.state_store.proofs.state.State.enter.Goals as goal

pub invariant_of-self : goal.invariant_of-self
invariant_of-self c =
    let absent : fin.get c.self.inside.table c.args.path ≡ None = ap (λ m. fin.get m c.args.path) c.self.view_is ∙ c.requires in
    let total = ap total_of c.in-Ok.ensures.ok ∙ total_of-insert_new c.self.inside.table c.args.path c.args.initials absent in
    let slots = ap cells_weight c.as_slice.ensures in
    (omega (arith, c.self.invariant.0, c.weight_of_all.ensures, c.saturating_add-total.ensures), c.if-total-gt-MAX_TOTAL.false)
