-- What a call makes of the value it stands on, by what its operator answers.
use Rattle.std.proofs.Common.{◌≤◌, List, [], ◌∷◌, length, Some, None, Ok, Err, IsSome, refl, arith}
use Rattle.sv_value.specs.declared.value.Value.{Value}
use Rattle.swift_core.specs.declared.term.ChangeCall.TheOpen.{ChangeCall-F}
use Rattle.value_calls.specs.declared.changes.Removed.{Removed}
use Rattle.value_calls.specs.Traps.{Outcome}
use Rattle.core_means.specs.Means.{Calling, altered_at, value_alone, with_element}

-- the call answers, so its operator does
pub right_alone : (o : Outcome Value) → IsSome (value_alone o) → IsSome o
right_alone None h = h
right_alone (Some (Ok v)) h = refl
right_alone (Some (Err k)) h = refl

pub right_element : (o : Outcome Removed) → IsSome (with_element o) → IsSome o
right_element None h = h
right_element (Some (Ok r)) h = refl
right_element (Some (Err k)) h = refl

-- no built-in call takes more than two arguments
pub at_most_two : (c : Calling) (vs : List Value) (v : Value) → IsSome (altered_at c vs v) → length vs ≤ 2
at_most_two c [] v h = omega arith
at_most_two c (x ∷ []) v h = omega arith
at_most_two c (x ∷ y ∷ []) v h = omega arith
at_most_two ChangeCall-F.Toggle (x ∷ y ∷ z ∷ rest) v h = absurd (cc h)
at_most_two (ChangeCall-F.Append _) (x ∷ y ∷ z ∷ rest) v h = absurd (cc h)
at_most_two (ChangeCall-F.AppendAll _) (x ∷ y ∷ z ∷ rest) v h = absurd (cc h)
at_most_two (ChangeCall-F.Insert _ _) (x ∷ y ∷ z ∷ rest) v h = absurd (cc h)
at_most_two (ChangeCall-F.Remove _) (x ∷ y ∷ z ∷ rest) v h = absurd (cc h)
at_most_two ChangeCall-F.RemoveFirst (x ∷ y ∷ z ∷ rest) v h = absurd (cc h)
at_most_two ChangeCall-F.RemoveLast (x ∷ y ∷ z ∷ rest) v h = absurd (cc h)
at_most_two ChangeCall-F.RemoveAll (x ∷ y ∷ z ∷ rest) v h = absurd (cc h)
at_most_two (ChangeCall-F.SwapAt _ _) (x ∷ y ∷ z ∷ rest) v h = absurd (cc h)
at_most_two (ChangeCall-F.Mutate _ _) (x ∷ y ∷ z ∷ rest) v h = absurd (cc h)
