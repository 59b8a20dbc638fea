use Rattle.std.proofs.Common.{ap, ◌∙◌}
use Rattle.body_means.specs.Each.{again}
use Rattle.body_means.specs.Elements.{narrow}
use Rattle.body_nodes.specs.Seen.{counted_at}
use Rattle.body_nodes.proofs.ids.Ids.again.Goals as goal

pub returns : goal.returns
returns c = record {
  value = c.count_at-count.ensures.value ∙ ap (counted_at c.self.inside.counts.entries) c.in_ok-key.ensures.value ∙ c.self.invariant c.args.id.now
      ∙ ap (λ ids. narrow (again c.args.id.now ids)) c.self.view_is;
}
