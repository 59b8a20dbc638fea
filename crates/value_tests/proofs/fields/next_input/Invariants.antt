use Rattle.std.proofs.Common.{◌≡◌, drop}
use Rattle.swift_core.specs.Context.{inputs_of}
use Rattle.value_tests.proofs.fields.next_input.Given as goal

abbrev pub invariant-loop-at : goal.invariant-loop-at
invariant-loop-at l = inputs_of (drop l.at l.members) ≡ inputs_of (drop l.from l.members)
