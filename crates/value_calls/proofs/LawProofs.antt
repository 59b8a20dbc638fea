-- The proofs of the laws.
use Rattle.std.specs.Prelude.{◌≡◌, ℕ, zero, suc, ◌≤◌, ℤ, pos, Bool, true, false, nat_le, not, Option, Some, None, Ok, Err, List, [], ◌∷◌, ◌++◌, length, slice_get, insert, remove, if◌then◌else◌}
use Rattle.std.proofs.Common.{refl, sym, ap, subst, ◌∙◌, arith}
use Rattle.std.proofs.lemmas.Bool.Decides.{nat_tests}
use Rattle.sv_value.specs.declared.value.Value.{Value, out-Value}
use Rattle.sv_value.specs.declared.value.Value.TheVariants as whole
use Rattle.sv_value.specs.declared.value.Value.TheViews.{outs-Int, outs-List}
use Rattle.sv_value.specs.declared.value.Value.TheOpen as one
use Rattle.sv_value.specs.declared.value.Value.TheOpen.{Value-F}
use Rattle.sv_value.specs.Value.{weight}
use Rattle.sv_value.specs.HopLaws.{weight_is, layer_weight, weight-Bool}
use Rattle.value_calls.specs.declared.changes.Removed.{Removed}
use Rattle.value_calls.specs.declared.traps.TrapKind.TheVariants.{Weight, Zero}
use Rattle.value_calls.specs.declared.operators.Arithmetic.{Arithmetic}
use Rattle.value_calls.specs.declared.operators.Arithmetic.TheVariants.{Plus, Minus, Times, Divide, Remainder, Min, Max}
use Rattle.value_calls.specs.declared.operators.Comparison.{Comparison}
use Rattle.value_calls.specs.declared.operators.Operator.TheVariants.{Compute, Compare, Equal, NotEqual, JoinTexts, JoinLists}
use Rattle.value_calls.specs.Calls.{removed_at, without}
use Rattle.value_calls.specs.Integers.{is_zero, quotient_of, remainder_of}
use Rattle.value_calls.specs.Laws.{MakesLight, OperatesLight, RemovesInserted}
use Rattle.value_calls.specs.Made.{made}
use Rattle.value_calls.specs.Operators.{number, arithmetic, comparison, computed, compared, joined_texts, joined_lists}
use Rattle.value_calls.specs.Same.{same}
use Rattle.value_calls.specs.Traps.{Outcome}

by_test : (test : Bool) (value answer : Value) → nat_le (weight value) 65536 ≡ test → (let o : Outcome Value = if test then Some (Ok value) else Some (Err Weight) in o ≡ Some (Ok answer)) → (answer ≡ value) × (weight answer ≤ 65536)
by_test true value answer e h =
    let same : value ≡ answer = cc in
    let below : weight value ≤ 65536 = grind (arith, nat_tests) in
    (sym same, subst (λ v. weight v ≤ 65536) same below)
by_test false value answer e h = cc

pub makes_light : MakesLight
unfolding made
makes_light value answer h = by_test (nat_le (weight value) 65536) value answer refl h

weight_int : (n : ℤ) → weight (whole.Int n) ≡ 1
weight_int n = weight_is (whole.Int n) ∙ ap layer_weight (outs-Int n)

light_int : (n : ℤ) (answer : Value) → (let o : Outcome Value = Some (Ok (whole.Int n)) in o ≡ Some (Ok answer)) → weight answer ≤ 65536
light_int n answer h =
    let same : whole.Int n ≡ answer = cc in
    let below : weight (whole.Int n) ≤ 65536 = omega (arith, weight_int n) in
    subst (λ v. weight v ≤ 65536) same below

light_truth : (b : Bool) (answer : Value) → (let o : Outcome Value = Some (Ok (whole.Bool b)) in o ≡ Some (Ok answer)) → weight answer ≤ 65536
light_truth b answer h =
    let same : whole.Bool b ≡ answer = cc in
    let below : weight (whole.Bool b) ≤ 65536 = omega (arith, weight-Bool b) in
    subst (λ v. weight v ≤ 65536) same below

light_number : (o : Option ℤ) (answer : Value) → number o ≡ Some (Ok answer) → weight answer ≤ 65536
light_number None answer h = cc
light_number (Some n) answer h = light_int n answer h

light_divided : (test : Bool) (o : Option ℤ) (answer : Value) → (let p : Outcome Value = if test then Some (Err Zero) else number o in p ≡ Some (Ok answer)) → weight answer ≤ 65536
light_divided true o answer h = cc
light_divided false o answer h = light_number o answer h

light_arithmetic : (operator : Arithmetic) (a b : ℤ) (answer : Value) → arithmetic operator a b ≡ Some (Ok answer) → weight answer ≤ 65536
light_arithmetic Plus a b answer h = light_number _ answer h
light_arithmetic Minus a b answer h = light_number _ answer h
light_arithmetic Times a b answer h = light_number _ answer h
light_arithmetic Divide a b answer h = light_divided (is_zero b) (quotient_of a b) answer h
light_arithmetic Remainder a b answer h = light_divided (is_zero b) (remainder_of a b) answer h
light_arithmetic Min a b answer h = light_int _ answer h
light_arithmetic Max a b answer h = light_int _ answer h

light_made : (value answer : Value) → made value ≡ Some (Ok answer) → weight answer ≤ 65536
light_made value answer h = (makes_light value answer h).1

light_computed : (operator : Arithmetic) (x y : Value-F Value) (answer : Value) → computed operator x y ≡ Some (Ok answer) → weight answer ≤ 65536
light_computed operator (one.Int a) (one.Int b) answer h = light_arithmetic operator a b answer h
light_computed operator x y answer h = cc

light_compared : (operator : Comparison) (x y : Value-F Value) (answer : Value) → compared operator x y ≡ Some (Ok answer) → weight answer ≤ 65536
light_compared operator (one.Int a) (one.Int b) answer h = light_truth (comparison operator a b) answer h
light_compared operator x y answer h = cc

light_texts : (x y : Value-F Value) (answer : Value) → joined_texts x y ≡ Some (Ok answer) → weight answer ≤ 65536
light_texts (one.Str a) (one.Str b) answer h = light_made (whole.Str (a ++ b)) answer h
light_texts x y answer h = cc

light_lists : (x y : Value-F Value) (answer : Value) → joined_lists x y ≡ Some (Ok answer) → weight answer ≤ 65536
light_lists (one.List a) (one.List b) answer h = light_made (whole.List (a ++ b)) answer h
light_lists x y answer h = cc

pub operates_light : OperatesLight
operates_light (Compute operator) left right answer h = light_computed operator (out-Value left) (out-Value right) answer h
operates_light (Compare operator) left right answer h = light_compared operator (out-Value left) (out-Value right) answer h
operates_light Equal left right answer h = light_truth (same left right) answer h
operates_light NotEqual left right answer h = light_truth (not (same left right)) answer h
operates_light JoinTexts left right answer h = light_texts (out-Value left) (out-Value right) answer h
operates_light JoinLists left right answer h = light_lists (out-Value left) (out-Value right) answer h

slice_get-insert : {X : Type 0} (xs : List X) (at : ℕ) (item : X) → at ≤ length xs → slice_get (insert xs at item) at ≡ Some item
slice_get-insert [] zero item h = refl
slice_get-insert [] (suc at) item h = absurd (omega arith)
slice_get-insert (x ∷ xs) zero item h = refl
slice_get-insert (x ∷ xs) (suc at) item h = slice_get-insert xs at item (omega arith)

remove-insert : {X : Type 0} (xs : List X) (at : ℕ) (item : X) → at ≤ length xs → remove (insert xs at item) at ≡ xs
remove-insert [] zero item h = refl
remove-insert [] (suc at) item h = absurd (omega arith)
remove-insert (x ∷ xs) zero item h = refl
remove-insert (x ∷ xs) (suc at) item h = ap (λ l. x ∷ l) (remove-insert xs at item (omega arith))

pub removes_inserted : RemovesInserted
removes_inserted parts at item h =
    let longer = insert parts at item in
    (λ i. removed_at (outs-List longer i) (outs-Int (pos at) i))
    ∙ ap (without longer at) (slice_get-insert parts at item h)
    ∙ ap (λ (rest : List Value). Some (Ok (let r : Removed = record { rest = whole.List rest; element = item } in r))) (remove-insert parts at item h)
