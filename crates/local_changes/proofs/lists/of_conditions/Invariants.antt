use Rattle.std.proofs.Common.{◌≡◌, ◌++◌, drop}
use Rattle.std.specs.List.{flat_map}
use Rattle.swift_core.specs.Alters.{condition_alters}
use Rattle.local_changes.proofs.lists.of_conditions.Given as goal

abbrev pub invariant-loop-condition : goal.invariant-loop-condition
invariant-loop-condition l = l.out ++ flat_map condition_alters (drop l.condition-index l.conditions) ≡ l.initial.out ++ flat_map condition_alters l.conditions
