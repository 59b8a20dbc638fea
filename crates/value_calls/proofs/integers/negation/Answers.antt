use Rattle.std.proofs.Common.{w64, FitsSigned}
use Rattle.std.specs.Prelude.{neg_ℤ}
use Rattle.std.proofs.lemmas.Int.{to_z-of_z}
use Rattle.value_calls.proofs.Fits.{within_from}
use Rattle.value_calls.proofs.integers.negation.Goals as goal

pub returns : goal.returns
returns c =
    let f : FitsSigned w64 c.args.a = c.ranges.a in
    within_from c.checked_neg.result (neg_ℤ c.args.a) (simp to_z-of_z at c.checked_neg.ensures)
