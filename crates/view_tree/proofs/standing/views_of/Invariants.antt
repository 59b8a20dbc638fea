use Rattle.std.proofs.Common.{◌≡◌, ◌++◌, drop}
use Rattle.std.specs.Prelude.{flat_map}
use Rattle.view_tree.specs.Standing.{view_path}
use Rattle.view_tree.proofs.standing.views_of.Given as goal

abbrev pub invariant-loop-one : goal.invariant-loop-one
invariant-loop-one l = l.out ++ flat_map view_path (drop l.one-index l.all) ≡ l.initial.out ++ flat_map view_path l.all
