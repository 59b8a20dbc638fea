use Rattle.std.proofs.Common.{◌≡◌, ◌≤◌, false, map, drop, length}
use Rattle.known_rules.specs.Known.{backwards}
use Rattle.known_types.specs.Rows.{open_of}
use Rattle.known_types.proofs.rounds.backwards.Given as goal

abbrev pub invariant-loop-at : goal.invariant-loop-at
invariant-loop-at l = record {
  within : l.at ≤ length l.opens;
  done : l.table ≡ backwards l.initial.table (map open_of (drop l.at l.opens));
  same : l.changed ≡ false → l.table ≡ l.initial.table;
}

abbrev pub decreases-loop-at : goal.decreases-loop-at
decreases-loop-at l = l.at
