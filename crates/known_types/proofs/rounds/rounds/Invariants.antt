use Rattle.std.proofs.Common.{◌≡◌, map}
use Rattle.known_rules.specs.Known.{rounds}
use Rattle.known_types.specs.Rows.{open_of}
use Rattle.known_types.proofs.rounds.rounds.Given as goal

abbrev pub invariant-loop-turn : goal.invariant-loop-turn
invariant-loop-turn l = l.table ≡ rounds (map open_of l.opens) l._turn l.fn.table
