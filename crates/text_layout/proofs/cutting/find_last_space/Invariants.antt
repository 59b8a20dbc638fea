use Rattle.std.proofs.Common.{◌≡◌, ◌≤◌, length, take}
use Rattle.text_layout.specs.Cuts.{last_space}
use Rattle.text_layout.proofs.cutting.find_last_space.Given as goal

abbrev pub invariant-loop-i : goal.invariant-loop-i
invariant-loop-i l = record { within : l.i ≤ length l.cs; told : last_space (take l.i l.cs) ≡ last_space l.cs }

abbrev pub decreases-loop-i : goal.decreases-loop-i
decreases-loop-i l = l.i
