use Rattle.std.proofs.Common.{rules, ◌≡◌, ◌∙◌}
use Rattle.edge_lists.proofs.Linking.{came_found, came_whole, came_pairs}
use Rattle.edge_lists.proofs.Counting.{counted}
use Rattle.edge_lists.proofs.lists.EdgeLists.link.Goals as goal

pub set_next-requires : goal.set_next-requires
set_next-requires g c = came_found c.self.inside.heap.nodes c.put-p.new.self.nodes c.set.new.self.nodes c.self.inside.readers.items c.self.inside.sources.items c.args.reader c.args.source c.put-p.result c.of.result.value
    c.index-below.result.now c.index-ends.result.now c.self.invariant.0 (search rules) (search rules) c.put-p.ensures.fresh c.put-p.ensures.nodes c.index-below.ensures c.index-ends.ensures c.set.ensures

pub invariant_of-self : goal.invariant_of-self
invariant_of-self g c = (
  came_whole c.self.inside.heap.nodes c.put-p.new.self.nodes c.set.new.self.nodes c.self.inside.readers.items c.self.inside.sources.items c.args.reader c.args.source c.put-p.result c.of.result.value
      c.index-below.result.now c.index-ends.result.now c.self.invariant.0 (search rules) (search rules) c.put-p.ensures.fresh c.put-p.ensures.nodes c.index-below.ensures c.index-ends.ensures c.set.ensures c.set_next.new.self.nodes c.set_next.ensures c.followed.result c.followed.ensures,
  counted c.self.inside.heap.nodes c.put-p.new.self.nodes c.set.new.self.nodes c.set_next.new.self.nodes c.put-p.result c.of.result.value _ _ _ c.put-p.ensures.nodes c.set.ensures c.set_next.ensures c.self.inside.linked c.self.invariant.1,
  (search rules),
)

pub returns-clause-pairs : goal.returns-clause-pairs
returns-clause-pairs g c = came_pairs c.self.inside.heap.nodes c.put-p.new.self.nodes c.set.new.self.nodes c.self.inside.readers.items c.self.inside.sources.items c.args.reader c.args.source c.put-p.result c.of.result.value
    c.index-below.result.now c.index-ends.result.now c.self.invariant.0 (search rules) (search rules) c.put-p.ensures.fresh c.put-p.ensures.nodes c.index-below.ensures c.index-ends.ensures c.set.ensures c.set_next.new.self.nodes c.set_next.ensures ∙ (search rules)
