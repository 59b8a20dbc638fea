use Rattle.std.proofs.Common.{sym, ap, ◌∙◌}
use Rattle.body_means.specs.Each.{again}
use Rattle.body_means.specs.Elements.{narrow}
use Rattle.body_nodes.specs.Seen.{key_of, counted_at}
use Rattle.body_nodes.proofs.ids.Ids.new.Goals as goal

pub invariant_of-result : goal.invariant_of-result
unfolding again
invariant_of-result c = λ id.
    ap (λ entries. counted_at entries (key_of id)) c.new-counts.ensures.empty ∙ ap (λ ids. narrow (again id ids)) (sym c.new-ids.ensures)
