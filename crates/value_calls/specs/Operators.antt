-- The operators on values, and the built-in calls that are like them.
use Rattle.std.specs.Prelude.{ℕ, ℤ, pos, ◌+ℤ◌, ◌-ℤ◌, ◌*ℤ◌, neg_ℤ, unsigned_abs, int_lt, Bool, not, Option, Some, None, Ok, Err, List, ◌++◌, if◌then◌else◌, codes}
use Rattle.std.specs.Fmt.{signed_decimal}
use Rattle.sv_value.specs.declared.value.Value.{Value, out-Value}
use Rattle.sv_value.specs.declared.value.Value.TheOpen as one
use Rattle.sv_value.specs.declared.value.Value.TheOpen.{Value-F}
use Rattle.sv_value.specs.declared.value.Value.TheVariants as whole
use Rattle.value_calls.specs.declared.traps.TrapKind.TheVariants.{Overflow, Zero}
use Rattle.value_calls.specs.declared.operators.Arithmetic.{Arithmetic}
use Rattle.value_calls.specs.declared.operators.Arithmetic.TheVariants.{Plus, Minus, Times, Divide, Remainder, Min, Max}
use Rattle.value_calls.specs.declared.operators.Comparison.{Comparison}
use Rattle.value_calls.specs.declared.operators.Comparison.TheVariants.{Less, LessOrEqual, Greater, GreaterOrEqual}
use Rattle.value_calls.specs.declared.operators.Operator.{Operator}
use Rattle.value_calls.specs.declared.operators.Operator.TheVariants.{Compute, Compare, Equal, NotEqual, JoinTexts, JoinLists}
use Rattle.value_calls.specs.declared.operators.Unary.{Unary}
use Rattle.value_calls.specs.declared.operators.Unary.TheVariants.{Negate, Absolute, Not, Describe}
use Rattle.value_calls.specs.Integers.{is_zero, within, quotient_of, remainder_of}
use Rattle.value_calls.specs.Made.{made}
use Rattle.value_calls.specs.Same.{same}
use Rattle.value_calls.specs.Traps.{Outcome}

-- a number that has 64 bits, or the trap
abbrev pub number : Option ℤ → Outcome Value
number None = Some (Err Overflow)
number (Some n) = Some (Ok (whole.Int n))

abbrev pub truth : Bool → Outcome Value
truth b = Some (Ok (whole.Bool b))

-- what needs a divisor other than 0
abbrev pub divided : ℤ → Option ℤ → Outcome Value
divided divisor answer = if is_zero divisor then Some (Err Zero) else number answer

abbrev pub arithmetic : Arithmetic → ℤ → ℤ → Outcome Value
arithmetic Plus a b = number (within (a +ℤ b))
arithmetic Minus a b = number (within (a -ℤ b))
arithmetic Times a b = number (within (a *ℤ b))
arithmetic Divide a b = divided b (quotient_of a b)
arithmetic Remainder a b = divided b (remainder_of a b)
arithmetic Min a b = Some (Ok (whole.Int (if int_lt b a then b else a)))
arithmetic Max a b = Some (Ok (whole.Int (if int_lt b a then a else b)))

abbrev pub comparison : Comparison → ℤ → ℤ → Bool
comparison Less a b = int_lt a b
comparison LessOrEqual a b = not (int_lt b a)
comparison Greater a b = int_lt b a
comparison GreaterOrEqual a b = not (int_lt a b)

abbrev pub computed : Arithmetic → Value-F Value → Value-F Value → Outcome Value
computed operator (one.Int a) (one.Int b) = arithmetic operator a b
computed operator left right = None

abbrev pub compared : Comparison → Value-F Value → Value-F Value → Outcome Value
compared operator (one.Int a) (one.Int b) = truth (comparison operator a b)
compared operator left right = None

abbrev pub joined_texts : Value-F Value → Value-F Value → Outcome Value
joined_texts (one.Str a) (one.Str b) = made (whole.Str (a ++ b))
joined_texts left right = None

abbrev pub joined_lists : Value-F Value → Value-F Value → Outcome Value
joined_lists (one.List a) (one.List b) = made (whole.List (a ++ b))
joined_lists left right = None

-- what an operator of two values answers
abbrev pub operation : Operator → Value → Value → Outcome Value
operation (Compute operator) left right = computed operator (out-Value left) (out-Value right)
operation (Compare operator) left right = compared operator (out-Value left) (out-Value right)
operation Equal left right = truth (same left right)
operation NotEqual left right = truth (not (same left right))
operation JoinTexts left right = joined_texts (out-Value left) (out-Value right)
operation JoinLists left right = joined_lists (out-Value left) (out-Value right)

abbrev pub truth_text : Bool → List ℕ
truth_text b = if b then codes "true" else codes "false"

abbrev pub unary_at : Unary → Value-F Value → Outcome Value
unary_at Negate (one.Int a) = number (within (neg_ℤ a))
unary_at Absolute (one.Int a) = number (within (pos (unsigned_abs a)))
unary_at Not (one.Bool b) = truth (not b)
unary_at Describe (one.Int a) = made (whole.Str (signed_decimal a))
unary_at Describe (one.Bool b) = made (whole.Str (truth_text b))
unary_at operator value = None

-- what an operator of one value answers
abbrev pub unary : Unary → Value → Outcome Value
unary operator value = unary_at operator (out-Value value)
