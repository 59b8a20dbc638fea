use Rattle.std.proofs.Common.{◌≡◌, ◌++◌, drop}
use Rattle.std.specs.List.{flat_map}
use Rattle.swift_core.specs.Mentions.{condition_mentions}
use Rattle.core_uses.proofs.stmt_mentions.of_conditions.Given as goal

abbrev pub invariant-loop-condition : goal.invariant-loop-condition
invariant-loop-condition l = l.out ++ flat_map condition_mentions (drop l.condition-index l.conditions) ≡ l.initial.out ++ flat_map condition_mentions l.conditions
