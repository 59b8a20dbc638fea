use Rattle.std.proofs.Common.{◌≡◌, false, map, drop}
use Rattle.known_rules.specs.Known.{forwards}
use Rattle.known_types.specs.Rows.{open_of}
use Rattle.known_types.proofs.rounds.forwards.Given as goal

abbrev pub invariant-loop-open : goal.invariant-loop-open
invariant-loop-open l = record {
  rest : forwards l.initial.table (map open_of l.opens) ≡ forwards l.table (map open_of (drop l.open-index l.opens));
  same : l.changed ≡ false → l.table ≡ l.initial.table;
}
