use Rattle.std.proofs.Common.{rules, ◌≡◌, ◌∙◌, subst, sym, ap, length, []}
use Rattle.edge_lists.specs.Edges.{AllFrom}
use Rattle.edge_lists.proofs.Closing.{none_left}
use Rattle.edge_lists.proofs.lists.EdgeLists.close.Goals as goal

pub close-requires : goal.close-requires
close-requires c = none_left (length c.self.inside.sources.items) (length c.self.inside.readers.items) c.self.inside.heap.nodes c.self.invariant.0.4 (subst (λ v. AllFrom v.readers v.pairs) (sym c.self.view_is) c.requires)
