use Rattle.std.proofs.Common.{◌≡◌, ◌+◌}
use Rattle.edge_lists.proofs.lists.EdgeLists.give_back.Given as goal

abbrev pub invariant-loop-freed : goal.invariant-loop-freed
invariant-loop-freed l = record {
  edges : (l.self.pairs ≡ l.fn.self.pairs) × (l.self.places ≡ l.fn.self.places) × (l.self.readers ≡ l.fn.self.readers) × (l.self.sources ≡ l.fn.self.sources);
  spare : l.self.spare + l.freed ≡ l.fn.self.spare;
}
