use Rattle.std.proofs.Common.{◌-ℤ◌, w64, FitsSigned}
use Rattle.std.proofs.lemmas.Int.{to_z-of_z}
use Rattle.value_calls.proofs.Fits.{within_from}
use Rattle.value_calls.proofs.integers.difference.Goals as goal

pub returns : goal.returns
returns c =
    let f : FitsSigned w64 c.args.a = c.ranges.a in
    let g : FitsSigned w64 c.args.b = c.ranges.b in
    within_from c.checked_sub.result (c.args.a -ℤ c.args.b) (simp to_z-of_z at c.checked_sub.ensures)
