use Rattle.std.proofs.Common.{◌≡◌, ◌++◌, drop}
use Rattle.std.specs.List.{flat_map}
use Rattle.swift_core.specs.Alters.{optional_alters}
use Rattle.local_changes.proofs.lists.of_arguments.Given as goal

abbrev pub invariant-loop-argument : goal.invariant-loop-argument
invariant-loop-argument l = l.out ++ flat_map optional_alters (drop l.argument-index l.arguments) ≡ l.initial.out ++ flat_map optional_alters l.arguments
