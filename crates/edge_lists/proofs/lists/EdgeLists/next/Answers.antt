use Rattle.std.proofs.Common.{rules, ◌≡◌, ◌∙◌, subst, sym, ap, [], ◌∷◌, ◌++◌}
use Rattle.edge_lists.specs.Edges.{chain, IsFirst}
use Rattle.edge_lists.proofs.Walking.{is_there, next_none, next_some}
use Rattle.edge_lists.proofs.lists.EdgeLists.next.Goals as goal

pub get-requires : goal.get-requires
get-requires c = is_there c.self.inside.heap.nodes c.self.inside.readers.items c.self.inside.sources.items c.args.edge.at.ptr c.self.invariant.0 c.requires.0 c.requires.1 c.requires.2 (ap (chain c.requires.0) c.self.view_is ∙ c.requires.3)

pub returns-in-None : goal.returns-in-None
returns-in-None c = λ s xs ys e. next_none c.self.inside.heap.nodes c.self.inside.readers.items c.self.inside.sources.items c.args.edge.at.ptr c.self.invariant.0 c.get.result.now c.get.ensures c.in-None.is s xs ys (ap (chain s) c.self.view_is ∙ e)

pub returns-in-Some : goal.returns-in-Some
returns-in-Some c = λ s xs ys e. next_some c.self.inside.heap.nodes c.self.inside.readers.items c.self.inside.sources.items c.args.edge.at.ptr c.self.invariant.0 c.get.result.now c.get.ensures c.in-Some.at c.in-Some.is s xs ys (ap (chain s) c.self.view_is ∙ e)
