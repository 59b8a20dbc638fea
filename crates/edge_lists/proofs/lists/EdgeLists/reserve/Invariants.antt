use Rattle.std.proofs.Common.{◌≡◌, ◌+◌}
use Rattle.edge_lists.proofs.lists.EdgeLists.reserve.Given as goal

abbrev pub invariant-loop-made : goal.invariant-loop-made
invariant-loop-made l = record {
  edges : (l.self.pairs ≡ l.fn.self.pairs) × (l.self.places ≡ l.fn.self.places) × (l.self.readers ≡ l.fn.self.readers) × (l.self.sources ≡ l.fn.self.sources);
  spare : l.self.spare ≡ l.fn.self.spare + l.made;
}
