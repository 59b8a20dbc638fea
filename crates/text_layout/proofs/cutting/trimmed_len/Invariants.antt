use Rattle.std.proofs.Common.{◌≡◌, ◌+◌, ◌≤◌, length, take}
use Rattle.std.specs.List.{suffix_len}
use Rattle.text_layout.specs.Clusters.{is_space}
use Rattle.text_layout.proofs.cutting.trimmed_len.Given as goal

abbrev pub invariant-loop-n : goal.invariant-loop-n
invariant-loop-n l = record { within : l.n ≤ length l.cs; told : l.n + suffix_len is_space l.cs ≡ length l.cs + suffix_len is_space (take l.n l.cs) }

abbrev pub decreases-loop-n : goal.decreases-loop-n
decreases-loop-n l = l.n
