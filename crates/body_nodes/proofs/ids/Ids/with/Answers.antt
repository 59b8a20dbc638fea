use Rattle.std.proofs.Common.{sym, ap, ◌∙◌}
use Rattle.body_means.specs.Each.{again}
use Rattle.body_means.specs.Elements.{narrow}
use Rattle.body_nodes.proofs.Counts.{counted_next}
use Rattle.body_nodes.proofs.ids.Ids.with.Goals as goal

pub invariant_of-result : goal.invariant_of-result
invariant_of-result c = λ q.
    counted_next c.self.inside.ids c.args.id c.self.inside.counts.entries c.insert.new.self.entries _ c.count_at-count.result c.saturating_add-next.result
    c.in_ok-key.ensures.value c.saturating_add-next.ensures c.self.invariant c.count_at-count.ensures.value c.in-Ok.ensures.updates.0 q
    ∙ ap (λ ids. narrow (again q ids)) (sym c.in_ok-push.ensures.ok)
