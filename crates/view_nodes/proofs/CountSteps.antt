-- Counts up to their limit.
use Rattle.std.proofs.Common.{◌≡◌, ℕ, ◌+◌, min, arith}
use Rattle.std.specs.Prelude.{◌/◌}

-- A weight that is cut off at the greatest 64-bit number counts as much, up to the limit.
pub counted_cut : (w v : ℕ) → v ≡ min w 18446744073709551615 → min (1 + v / 64) 20001 ≡ min (1 + w / 64) 20001
counted_cut w v e = omega arith

-- and so do two counts that are each cut off
pub added_cut : (a b x y : ℕ) → x ≡ min a 20001 → y ≡ min b 20001 → min (x + y) 20001 ≡ min (a + b) 20001
added_cut a b x y e f = omega arith
