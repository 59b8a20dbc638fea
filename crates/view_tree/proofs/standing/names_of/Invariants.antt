use Rattle.std.proofs.Common.{◌≡◌, ◌++◌, drop}
use Rattle.std.specs.Prelude.{flat_map}
use Rattle.view_tree.specs.Standing.{name_of}
use Rattle.view_tree.proofs.standing.names_of.Given as goal

abbrev pub invariant-loop-one : goal.invariant-loop-one
invariant-loop-one l = l.out ++ flat_map name_of (drop l.one-index l.all) ≡ l.initial.out ++ flat_map name_of l.all
