use Rattle.std.proofs.Common.{◌≡◌, ◌++◌, length, drop}
use Rattle.swift_core.specs.Codes.{homes_from}
use Rattle.swift_core.specs.Firsts.{firsts_from}
use Rattle.swift_core.proofs.code_index.index_of.Given as goal

abbrev pub invariant-loop-at : goal.invariant-loop-at
invariant-loop-at l =
    (l.homes ++ homes_from l.at (drop l.at l.members) ≡ homes_from 0 l.members)
    × (l.firsts ++ firsts_from (length l.homes) (drop l.at l.members) ≡ firsts_from 0 l.members)
