use Rattle.std.proofs.Common.{rules, ◌≡◌, ◌∙◌, subst, sym, ap, [], ◌∷◌, ◌++◌, Some, length, slice_get}
use Rattle.edge_lists.specs.Edges.{chain, readers_of}
use Rattle.edge_lists.proofs.Walking.{is_there, reader_at}
use Rattle.edge_lists.proofs.lists.EdgeLists.reader_of.Goals as goal

pub get-requires : goal.get-requires
get-requires c = is_there c.self.inside.heap.nodes c.self.inside.readers.items c.self.inside.sources.items c.args.edge.at.ptr c.self.invariant.0 c.requires.0 c.requires.1 c.requires.2 (ap (chain c.requires.0) c.self.view_is ∙ c.requires.3)

pub returns : goal.returns
returns c = λ s xs ys e. subst (λ v. slice_get (readers_of s v.pairs) (length xs) ≡ Some c.get.result.now.reader) c.self.view_is
    (reader_at c.self.inside.heap.nodes c.self.inside.readers.items c.self.inside.sources.items c.args.edge.at.ptr c.get.result.now c.self.invariant.0 c.get.ensures s xs ys (ap (chain s) c.self.view_is ∙ e))
