use Rattle.std.proofs.Common.{rules, ◌≡◌, ◌∙◌, subst, [], length}
use Rattle.edge_lists.specs.Edges.{chain, readers_of, IsFirst}
use Rattle.edge_lists.proofs.Walking.{as_many, first_none, first_some}
use Rattle.edge_lists.proofs.lists.EdgeLists.first.Goals as goal

pub returns-in-None-clause-edge : goal.returns-in-None-clause-edge
returns-in-None-clause-edge c = subst (λ v. chain c.args.source v ≡ []) c.self.view_is (first_none c.self.inside.heap.nodes c.self.inside.readers.items c.self.inside.sources.items c.args.source c.index.result.now c.self.invariant.0 (search rules) c.index.ensures c.in-None.is)

pub returns-in-Some-clause-edge : goal.returns-in-Some-clause-edge
returns-in-Some-clause-edge c = subst (λ v. IsFirst c.in-Some.at.ptr (chain c.args.source v)) c.self.view_is (first_some c.self.inside.heap.nodes c.self.inside.readers.items c.self.inside.sources.items c.args.source c.index.result.now c.self.invariant.0 (search rules) c.index.ensures c.in-Some.at c.in-Some.is)

pub returns-in-None-clause-many : goal.returns-in-None-clause-many
returns-in-None-clause-many c = subst (λ v. length (chain c.args.source v) ≡ length (readers_of c.args.source v.pairs)) c.self.view_is (as_many c.args.source c.self.inside.heap.nodes)

pub returns-in-Some-clause-many : goal.returns-in-Some-clause-many
returns-in-Some-clause-many c = subst (λ v. length (chain c.args.source v) ≡ length (readers_of c.args.source v.pairs)) c.self.view_is (as_many c.args.source c.self.inside.heap.nodes)
