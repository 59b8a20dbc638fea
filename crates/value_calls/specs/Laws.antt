-- What holds of all that is made.
use Rattle.std.specs.Prelude.{◌≡◌, ℕ, ◌≤◌, pos, Some, Ok, List, length, insert}
use Rattle.sv_value.specs.declared.value.Value.{Value}
use Rattle.sv_value.specs.declared.value.Value.TheVariants as whole
use Rattle.sv_value.specs.Value.{weight}
use Rattle.value_calls.specs.declared.operators.Operator.{Operator}
use Rattle.value_calls.specs.Calls.{removed}
use Rattle.value_calls.specs.Made.{made}
use Rattle.value_calls.specs.Operators.{operation}

-- What is made is the value itself, and weighs no more than 65,536.
abbrev pub MakesLight : Type 0
MakesLight = (value answer : Value) → made value ≡ Some (Ok answer) → (answer ≡ value) × (weight answer ≤ 65536)

-- What an operator of two values answers weighs no more than 65,536.
abbrev pub OperatesLight : Type 0
OperatesLight = (operator : Operator) (left right answer : Value) → operation operator left right ≡ Some (Ok answer) → weight answer ≤ 65536

-- To remove what was inserted gives the list and the item back.
abbrev pub RemovesInserted : Type 0
RemovesInserted = (parts : List Value) (at : ℕ) (item : Value) → at ≤ length parts → removed (whole.List (insert parts at item)) (whole.Int (pos at)) ≡ Some (Ok (record { rest = whole.List parts; element = item }))
