use Rattle.std.proofs.Common.{◌≡◌, ◌++◌, drop}
use Rattle.std.specs.Prelude.{flat_map}
use Rattle.view_tree.specs.Standing.{unit_path}
use Rattle.view_tree.proofs.standing.units_of.Given as goal

abbrev pub invariant-loop-one : goal.invariant-loop-one
invariant-loop-one l = l.out ++ flat_map unit_path (drop l.one-index l.all) ≡ l.initial.out ++ flat_map unit_path l.all
