use Rattle.std.proofs.Common.{rules, ◌≡◌, ◌∙◌, ap}
use Rattle.edge_lists.proofs.Heading.{more_heads}
use Rattle.edge_lists.proofs.lists.EdgeLists.reserve_heads.Goals as goal

pub invariant_of-self-2 : goal.invariant_of-self-2
invariant_of-self-2 c = (
  more_heads c.saturating_sub-more_readers.result c.saturating_sub-more_sources.result c.self.inside.heap.nodes
      c.self.inside.readers.items c.append_copies.new.items.items c.self.inside.sources.items c.append_copies-2.new.items.items c.self.invariant.0 (search rules) (search rules),
  c.self.invariant.1,
  c.self.invariant.2,
)
