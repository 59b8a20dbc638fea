use Rattle.std.proofs.Common.{w64, FitsSigned}
use Rattle.std.proofs.lemmas.Int.{to_z-of_z}
use Rattle.value_calls.proofs.Fits.{absolute_from}
use Rattle.value_calls.proofs.integers.absolute.Goals as goal

pub returns : goal.returns
returns c =
    let f : FitsSigned w64 c.args.a = c.ranges.a in
    absolute_from c.checked_abs.result c.args.a f (simp to_z-of_z at c.checked_abs.ensures)
