use Rattle.std.proofs.Common.{arith, rules, subst, ◌≡◌, ◌∙◌, sym, ap, Some, length, ◌<◌, refl}
use Rattle.edge_lists.specs.Edges.{others, mine}
use Rattle.edge_lists.proofs.Parting.{head_is, none_is, head_there, prev_at, next_at, in_range, whole_at, kept_at, less_at}
use Rattle.edge_lists.proofs.Counting.{count_without, parted_count}
use Rattle.edge_lists.proofs.lists.EdgeLists.unlink_newest.Goals as goal

pub returns-in_default-clause-dropped : goal.returns-in_default-clause-dropped
returns-in_default-clause-dropped c = ((search rules) ∙ none_is c.self.inside.heap.nodes c.self.inside.readers.items c.self.inside.sources.items c.args.reader c.index.result.now c.self.invariant.0 (search rules) c.index.ensures c.in_default.is, refl)

pub take-requires : goal.take-requires
take-requires c = head_there c.args.reader c.in-Some.p c.self.inside.heap.nodes (head_is c.self.inside.heap.nodes c.self.inside.readers.items c.self.inside.sources.items c.args.reader c.index.result.now c.in-Some.p c.self.invariant.0 (search rules) c.index.ensures c.in-Some.is)

pub set_next-requires : goal.set_next-requires
set_next-requires c = prev_at c.self.inside.heap.nodes c.take.new.self.nodes c.self.inside.readers.items c.self.inside.sources.items c.args.reader c.in-Some.p c.deref-node.result.now c.self.invariant.0 (search rules)
    (head_is c.self.inside.heap.nodes c.self.inside.readers.items c.self.inside.sources.items c.args.reader c.index.result.now c.in-Some.p c.self.invariant.0 (search rules) c.index.ensures c.in-Some.is) (c.take.ensures.value ∙ ap Some (sym (c.deref-node.ensures ∙ c.into_box-block.ensures))) c.take.ensures.nodes

pub set_prev-requires : goal.set_prev-requires
set_prev-requires c = next_at c.self.inside.heap.nodes c.take.new.self.nodes c.self.inside.readers.items c.self.inside.sources.items c.args.reader c.in-Some.p c.deref-node.result.now c.self.invariant.0 (search rules)
    (head_is c.self.inside.heap.nodes c.self.inside.readers.items c.self.inside.sources.items c.args.reader c.index.result.now c.in-Some.p c.self.invariant.0 (search rules) c.index.ensures c.in-Some.is) (c.take.ensures.value ∙ ap Some (sym (c.deref-node.ensures ∙ c.into_box-block.ensures))) c.take.ensures.nodes c.set_next.new.self.nodes c.set_next.ensures

pub index-ends-requires : goal.index-ends-requires
index-ends-requires c = subst (λ n. c.deref-node.result.now.source < n) (sym c.self.inside.sources.ok.0) (in_range c.self.inside.heap.nodes c.self.inside.readers.items c.self.inside.sources.items c.args.reader c.in-Some.p c.deref-node.result.now c.self.invariant.0 (search rules)
    (head_is c.self.inside.heap.nodes c.self.inside.readers.items c.self.inside.sources.items c.args.reader c.index.result.now c.in-Some.p c.self.invariant.0 (search rules) c.index.ensures c.in-Some.is) (c.take.ensures.value ∙ ap Some (sym (c.deref-node.ensures ∙ c.into_box-block.ensures))))

pub index_mut-requires-2 : goal.index_mut-requires-2
index_mut-requires-2 c = subst (λ n. c.deref-node.result.now.source < n) (sym c.self.inside.sources.ok.0) (in_range c.self.inside.heap.nodes c.self.inside.readers.items c.self.inside.sources.items c.args.reader c.in-Some.p c.deref-node.result.now c.self.invariant.0 (search rules)
    (head_is c.self.inside.heap.nodes c.self.inside.readers.items c.self.inside.sources.items c.args.reader c.index.result.now c.in-Some.p c.self.invariant.0 (search rules) c.index.ensures c.in-Some.is) (c.take.ensures.value ∙ ap Some (sym (c.deref-node.ensures ∙ c.into_box-block.ensures))))

pub invariant_of-self : goal.invariant_of-self
invariant_of-self c = (
  whole_at c.self.inside.heap.nodes c.take.new.self.nodes c.self.inside.readers.items c.self.inside.sources.items c.args.reader c.in-Some.p c.deref-node.result.now c.self.invariant.0 (search rules)
      (head_is c.self.inside.heap.nodes c.self.inside.readers.items c.self.inside.sources.items c.args.reader c.index.result.now c.in-Some.p c.self.invariant.0 (search rules) c.index.ensures c.in-Some.is) (c.take.ensures.value ∙ ap Some (sym (c.deref-node.ensures ∙ c.into_box-block.ensures))) c.take.ensures.nodes c.set_next.new.self.nodes c.set_prev.new.self.nodes c.set_next.ensures c.set_prev.ensures c.index-ends.result.now c.parted.result c.index-ends.ensures c.parted.ensures,
  parted_count c.self.inside.heap.nodes c.take.new.self.nodes c.set_next.new.self.nodes c.set_prev.new.self.nodes c.in-Some.p.ptr _ c.take.ensures.value c.take.ensures.nodes _ _ _ _ c.set_next.ensures c.set_prev.ensures c.self.inside.linked c.self.invariant.1,
  let bound = c.self.invariant.2 in let push = c.push.ensures in let some = count_without c.self.inside.heap.nodes c.in-Some.p.ptr _ c.take.ensures.value in let n = c.self.invariant.1 in omega (arith, bound, push, some, n),
)

pub returns-clause-kept : goal.returns-clause-kept
returns-clause-kept c = kept_at c.self.inside.heap.nodes c.take.new.self.nodes c.self.inside.readers.items c.self.inside.sources.items c.args.reader c.in-Some.p c.deref-node.result.now c.self.invariant.0 (search rules)
    (head_is c.self.inside.heap.nodes c.self.inside.readers.items c.self.inside.sources.items c.args.reader c.index.result.now c.in-Some.p c.self.invariant.0 (search rules) c.index.ensures c.in-Some.is) (c.take.ensures.value ∙ ap Some (sym (c.deref-node.ensures ∙ c.into_box-block.ensures))) c.take.ensures.nodes c.set_next.new.self.nodes c.set_prev.new.self.nodes c.set_next.ensures c.set_prev.ensures ∙ (search rules)

pub returns-clause-dropped : goal.returns-clause-dropped
returns-clause-dropped c = (
  (search rules) ∙ less_at c.self.inside.heap.nodes c.take.new.self.nodes c.self.inside.readers.items c.self.inside.sources.items c.args.reader c.in-Some.p c.deref-node.result.now c.self.invariant.0 (search rules)
      (head_is c.self.inside.heap.nodes c.self.inside.readers.items c.self.inside.sources.items c.args.reader c.index.result.now c.in-Some.p c.self.invariant.0 (search rules) c.index.ensures c.in-Some.is) (c.take.ensures.value ∙ ap Some (sym (c.deref-node.ensures ∙ c.into_box-block.ensures))) c.take.ensures.nodes c.set_next.new.self.nodes c.set_prev.new.self.nodes c.set_next.ensures c.set_prev.ensures,
  (search rules),
)
