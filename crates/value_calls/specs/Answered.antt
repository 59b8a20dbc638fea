-- Operands of the types of an operator or a call have an answer, a value or a trap.
use Rattle.std.specs.Prelude.{ℕ, ◌&&◌, ℤ, pos, int_lt, Bool, true, false, nat_le, nat_lt, Option, Some, None, Ok, Err, List, length, [], ◌∷◌, ◌++◌, slice_get, insert, swap, position, IsSome, if◌then◌else◌}
use Rattle.std.proofs.Common.{refl}
use Rattle.std.specs.Fmt.{signed_decimal}
use Rattle.sv_value.specs.declared.value.Value.{Value}
use Rattle.sv_value.specs.declared.value.Value.TheVariants as whole
use Rattle.sv_value.specs.declared.value.Value.TheViews.{outs-Int, outs-Str, outs-List}
use Rattle.sv_value.specs.Value.{weight}
use Rattle.value_calls.specs.declared.operators.Arithmetic.{Arithmetic}
use Rattle.value_calls.specs.declared.operators.Arithmetic.TheVariants.{Plus, Minus, Times, Divide, Remainder, Min, Max}
use Rattle.value_calls.specs.declared.operators.Unary.TheVariants.{Describe}
use Rattle.value_calls.specs.declared.traps.TrapKind.TheVariants.{Weight, Zero, Index, Range}
use Rattle.value_calls.specs.Calls.{indexed, inserted_into, without, removed_place, swapped_places, copies_of, some_number, place_found, range_of, appended, inserted, repeated, first_index, interpolated}
use Rattle.value_calls.specs.Integers.{is_zero, place_of, within, quotient_of, remainder_of}
use Rattle.value_calls.specs.Made.{made}
use Rattle.value_calls.specs.Operators.{number, divided, arithmetic, unary}
use Rattle.value_calls.specs.Same.{same}
use Rattle.value_calls.specs.Traps.{Outcome}

pub number_answers : (o : Option ℤ) → IsSome (number o)
number_answers None = refl
number_answers (Some n) = refl

either : {A : Type 0} (test : Bool) (x y : Outcome A) → IsSome x → IsSome y → IsSome (if test then x else y)
either true x y h k = h
either false x y h k = k

pub made_answers : (value : Value) → IsSome (made value)
unfolding made
made_answers value = either (nat_le (weight value) 65536) (Some (Ok value)) (Some (Err Weight)) refl refl

divided_answers : (divisor : ℤ) (o : Option ℤ) → IsSome (divided divisor o)
divided_answers divisor o = either (is_zero divisor) (Some (Err Zero)) (number o) refl (number_answers o)

pub arithmetic_answers : (operator : Arithmetic) (a b : ℤ) → IsSome (arithmetic operator a b)
arithmetic_answers Plus a b = number_answers _
arithmetic_answers Minus a b = number_answers _
arithmetic_answers Times a b = number_answers _
arithmetic_answers Divide a b = divided_answers b (quotient_of a b)
arithmetic_answers Remainder a b = divided_answers b (remainder_of a b)
arithmetic_answers Min a b = refl
arithmetic_answers Max a b = refl

pub indexed_answers : (o : Option Value) → IsSome (indexed o)
indexed_answers None = refl
indexed_answers (Some part) = refl

pub found_answers : (o : Option ℕ) → IsSome (place_found o)
found_answers None = made_answers _
found_answers (Some n) = some_answers (within (pos n)) where
  some_answers : (o : Option ℤ) → IsSome (some_number o)
  some_answers None = refl
  some_answers (Some m) = made_answers _

pub copies_answers : (text : List ℕ) (times : Option ℕ) → IsSome (copies_of text times)
copies_answers text None = refl
copies_answers text (Some n) = made_answers _

pub range_answers : (a b : ℤ) → IsSome (range_of a b)
range_answers a b = either (int_lt b a) (Some (Err Range)) (Some (Ok (record { lower = a; upper = b }))) refl refl

pub inserted_answers : (parts : List Value) (item : Value) (place : Option ℕ) → IsSome (inserted_into parts item place)
inserted_answers parts item None = refl
inserted_answers parts item (Some n) = either (nat_le n (length parts)) (made (whole.List (insert parts n item))) (Some (Err Index)) (made_answers _) refl

without_answers : (parts : List Value) (n : ℕ) (o : Option Value) → IsSome (without parts n o)
without_answers parts n None = refl
without_answers parts n (Some part) = refl

pub removed_answers : (parts : List Value) (place : Option ℕ) → IsSome (removed_place parts place)
removed_answers parts None = refl
removed_answers parts (Some n) = without_answers parts n (slice_get parts n)

pub swapped_answers : (parts : List Value) (i j : Option ℕ) → IsSome (swapped_places parts i j)
swapped_answers parts None j = refl
swapped_answers parts (Some i) None = refl
swapped_answers parts (Some i) (Some j) = either (nat_lt i (length parts) && nat_lt j (length parts)) (Some (Ok (whole.List (swap parts i j)))) (Some (Err Index)) refl refl

-- ---- the same, of values

pub describe_answers : (n : ℤ) → IsSome (unary Describe (whole.Int n))
describe_answers n = rw (outs-Int n) (made_answers (whole.Str (signed_decimal n)))

pub append_answers : (parts : List Value) (item : Value) → IsSome (appended (whole.List parts) item)
append_answers parts item = rw (outs-List parts) (made_answers (whole.List (parts ++ item ∷ [])))

pub insert_answers : (parts : List Value) (item : Value) (index : ℤ) → IsSome (inserted (whole.List parts) item (whole.Int index))
insert_answers parts item index = rw (outs-List parts, outs-Int index) (inserted_answers parts item (place_of index))

pub repeat_answers : (text : List ℕ) (times : ℤ) → IsSome (repeated (whole.Str text) (whole.Int times))
repeat_answers text times = rw (outs-Str text, outs-Int times) (copies_answers text (place_of times))

pub first_index_answers : (parts : List Value) (item : Value) → IsSome (first_index (whole.List parts) item)
first_index_answers parts item = rw (outs-List parts) (found_answers (position (same item) parts))

pub interpolate_answers : (text : List ℕ) (n : ℤ) → IsSome (interpolated (whole.Str text ∷ whole.Int n ∷ []))
interpolate_answers text n = rw (outs-Str text, outs-Int n) (made_answers (whole.Str (text ++ (signed_decimal n ++ []))))
