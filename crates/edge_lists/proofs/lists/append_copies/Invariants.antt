use Rattle.std.proofs.Common.{◌≡◌, ◌+◌, ◌≤◌, ◌++◌, replicate}
use Rattle.std.specs.Prelude.{vec_len, vec_capacity}
use Rattle.edge_lists.proofs.lists.append_copies.Given as goal

abbrev pub invariant-loop-appended : goal.invariant-loop-appended
invariant-loop-appended g l = record {
  items : l.items.items ≡ l.fn.items.items ++ replicate l.appended l.value;
  room : vec_len l.fn.items + l.count ≤ vec_capacity l.items;
  len : vec_len l.items ≡ vec_len l.fn.items + l.appended;
}
