-- The types of the operators and of the built-in calls.
use Rattle.std.specs.Prelude.{ℕ, Bool, true, false, Option, Some, None}
use Rattle.value_calls.specs.declared.operators.Operator.{Operator}
use Rattle.value_calls.specs.declared.operators.Operator.TheVariants.{Compute, Compare, Equal, NotEqual, JoinTexts, JoinLists}
use Rattle.value_calls.specs.declared.operators.Unary.{Unary}
use Rattle.value_calls.specs.declared.operators.Unary.TheVariants.{Negate, Absolute, Not, Describe}
use Rattle.value_calls.specs.declared.calls.Property.{Property}
use Rattle.value_calls.specs.declared.calls.Property.TheVariants.{Count, IsEmpty, First, Last}
use Rattle.swift_core.specs.declared.ty.Ty.{Ty, out-Ty}
use Rattle.swift_core.specs.declared.ty.Ty.TheOpen.{Ty-F}
use Rattle.swift_core.specs.declared.ty.Ty.TheVariants as ty

-- the type of what an operator of one value gives
abbrev pub unary_type : Unary → Ty-F Ty → Option Ty
unary_type Negate Ty-F.Int = Some ty.Int
unary_type Absolute Ty-F.Int = Some ty.Int
unary_type Not Ty-F.Bool = Some ty.Bool
unary_type Describe Ty-F.Int = Some ty.Text
unary_type Describe Ty-F.Bool = Some ty.Text
unary_type operator operand = None

-- the type of what an operator gives of two values of one type
abbrev pub binary_type : Operator → Ty-F Ty → Option Ty
binary_type (Compute operator) Ty-F.Int = Some ty.Int
binary_type (Compare operator) Ty-F.Int = Some ty.Bool
binary_type Equal operand = Some ty.Bool
binary_type NotEqual operand = Some ty.Bool
binary_type JoinTexts Ty-F.Text = Some ty.Text
binary_type JoinLists (Ty-F.List t) = Some (ty.List t)
binary_type operator operand = None

-- the type of a built-in property of a string or a list
abbrev pub property_type : Property → Ty-F Ty → Option Ty
property_type Count Ty-F.Text = Some ty.Int
property_type Count (Ty-F.List t) = Some ty.Int
property_type IsEmpty Ty-F.Text = Some ty.Bool
property_type IsEmpty (Ty-F.List t) = Some ty.Bool
property_type First (Ty-F.List t) = Some (ty.Optional t)
property_type Last (Ty-F.List t) = Some (ty.Optional t)
property_type property operand = None

-- a value of the type may stand in a hole of a string
abbrev pub is_printed : Ty-F Ty → Bool
is_printed Ty-F.Int = true
is_printed Ty-F.Bool = true
is_printed Ty-F.Text = true
is_printed other = false
