-- A value is made where it weighs no more than a value may.
use Rattle.std.proofs.Common.{◌≡◌, ℕ, ◌≤◌, ◌<◌, Some, Ok, Err, min, Bool, true, false, nat_le, cond, refl, ap, arith}
use Rattle.std.proofs.lemmas.Bool.Decides.{nat_tests}
use Rattle.sv_value.specs.declared.value.Value.{Value}
use Rattle.sv_value.specs.Value.{weight}
use Rattle.value_calls.specs.declared.traps.TrapKind.TheVariants.{Weight}
use Rattle.value_calls.specs.Made.{made}

at_most : (n m : ℕ) → n ≡ min m 18446744073709551615 → n ≤ 65536 → nat_le m 65536 ≡ true
at_most n m e h = grind (arith, nat_tests)

above : (n m : ℕ) → n ≡ min m 18446744073709551615 → 65536 < n → nat_le m 65536 ≡ false
above n m e h = grind (arith, nat_tests)

pub made_light : (value : Value) (n : ℕ) → n ≡ min (weight value) 18446744073709551615 → n ≤ 65536 → made value ≡ Some (Ok value)
unfolding made
made_light value n e h = ap (λ b. cond b (Some (Ok value)) (Some (Err Weight))) (at_most n (weight value) e h)

pub made_heavy : (value : Value) (n : ℕ) → n ≡ min (weight value) 18446744073709551615 → 65536 < n → made value ≡ Some (Err Weight)
unfolding made
made_heavy value n e h = ap (λ b. cond b (Some (Ok value)) (Some (Err Weight))) (above n (weight value) e h)
