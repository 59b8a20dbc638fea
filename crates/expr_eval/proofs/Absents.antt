-- Locals that are not used, one by one.
use Rattle.std.proofs.Common.{◌≡◌, ℕ, suc, ◌-◌, ◌<◌, ◌∷◌, [], ap, arith}
use Rattle.core_means.specs.declared.parts.Local.TheVariants as local
use Rattle.core_means.specs.Public.{absent}

pub absent_more : (n : ℕ) → 0 < n → absent n ≡ local.Absent ∷ absent (n - 1)
absent_more n some = let e : n ≡ suc (n - 1) = omega arith in ap absent e

pub absent_none : (n : ℕ) → n ≡ 0 → absent n ≡ []
absent_none n e = ap absent e
