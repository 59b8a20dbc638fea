use Rattle.std.proofs.Common.{◌≡◌, take}
use Rattle.identity_path.proofs.input.InputsCopyInputs.copy.Given as goal

abbrev pub invariant-loop-input : goal.invariant-loop-input
invariant-loop-input l = l.copy ≡ take l.input-index l.input-items
