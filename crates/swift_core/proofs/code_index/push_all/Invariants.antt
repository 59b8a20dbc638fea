use Rattle.std.proofs.Common.{◌≡◌, ◌++◌}
use Rattle.std.proofs.Math.ListN.{replicate}
use Rattle.swift_core.proofs.code_index.push_all.Given as goal

abbrev pub invariant-loop : goal.invariant-loop
invariant-loop l = l.homes ≡ l.initial.homes ++ replicate l.counter l.home
