use Rattle.std.proofs.Common.{◌≡◌, ◌++◌, drop}
use Rattle.std.specs.List.{flat_map}
use Rattle.swift_core.specs.Mentions.{optional_core_mentions}
use Rattle.core_uses.proofs.item_mentions.of_arguments.Given as goal

abbrev pub invariant-loop-argument : goal.invariant-loop-argument
invariant-loop-argument l = l.out ++ flat_map optional_core_mentions (drop l.argument-index l.arguments) ≡ l.initial.out ++ flat_map optional_core_mentions l.arguments
