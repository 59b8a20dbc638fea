use Rattle.std.proofs.Common.{◌≡◌, ◌+◌, drop}
use Rattle.text_layout.specs.Cuts.{fit}
use Rattle.text_layout.proofs.cutting.count_fitting.Given as goal

abbrev pub invariant-loop-i : goal.invariant-loop-i
invariant-loop-i l = l.i + fit l.left (drop l.i l.cs) ≡ fit l.width l.cs
