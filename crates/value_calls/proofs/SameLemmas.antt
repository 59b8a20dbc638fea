-- The test of equality that the code makes is that of the definition.
use Rattle.std.specs.Prelude.{◌≡◌, Bool, true, false, IsTrue, ◌↔◌}
use Rattle.std.proofs.Common.{refl, sym}
use Rattle.sv_value.specs.declared.value.Value.{Value}
use Rattle.value_calls.specs.Same.{same, same_decides}

by_cases : (a b : Bool) (P : Type 0) → (IsTrue a ↔ P) → (IsTrue b ↔ P) → a ≡ b
by_cases true true P h k = refl
by_cases false false P h k = refl
by_cases true false P h k = sym (k.1 (h.0 refl))
by_cases false true P h k = h.1 (k.0 refl)

pub same_from : (b : Bool) (left right : Value) → (IsTrue b ↔ (left ≡ right)) → b ≡ same left right
same_from b left right h = by_cases b (same left right) (left ≡ right) h (same_decides left right)
