use Rattle.std.proofs.Common.{w64, FitsSigned}
use Rattle.std.proofs.lemmas.Int.{to_z-of_z}
use Rattle.value_calls.proofs.Fits.{remainder_from}
use Rattle.value_calls.proofs.integers.remainder.Goals as goal

pub returns : goal.returns
returns c =
    let f : FitsSigned w64 c.args.a = c.ranges.a in
    let g : FitsSigned w64 c.args.b = c.ranges.b in
    remainder_from c.checked_rem.result c.args.a c.args.b g c.requires (simp to_z-of_z at c.checked_rem.ensures)
