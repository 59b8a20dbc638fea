use Rattle.std.proofs.Common.{◌≡◌, ◌+◌, ◌≤◌}
use Rattle.edge_lists.proofs.tests.link_readers.Given as goal

abbrev pub invariant-loop-reader : goal.invariant-loop-reader
invariant-loop-reader g l = record {
  heads : (l.lists.readers ≡ l.fn.lists.readers) × (l.lists.sources ≡ l.fn.lists.sources);
  spare : l.lists.spare + l.reader ≡ l.fn.lists.spare;
  visits : l.visits ≡ l.fn.visits + l.reader;
}
