-- Which values are made, by the weights that the code adds.
use Rattle.std.specs.Prelude.{◌≡◌, ℕ, ◌+◌, ◌<◌, ◌≤◌, true, false, nat_le, Some, None, Ok, Err, List, [], ◌∷◌, ◌++◌, map, sum, length, insert}
use Rattle.std.proofs.Common.{refl, ap, ◌∙◌, arith, length-append}
use Rattle.std.proofs.lemmas.Bool.Decides.{nat_tests}
use Rattle.std.proofs.lemmas.List.Sums.{sum-map, sum_by-append, sum_by-insert}
use Rattle.sv_value.specs.declared.value.Value.{Value}
use Rattle.sv_value.specs.declared.value.Value.TheVariants as whole
use Rattle.sv_value.specs.declared.value.Value.TheViews.{outs-Str, outs-Opt}
use Rattle.sv_value.specs.Value.{weight}
use Rattle.sv_value.specs.HopLaws.{weight_is, layer_weight, weight-List, weight-Struct}
use Rattle.value_calls.specs.declared.traps.TrapKind.TheVariants.{Weight}
use Rattle.value_calls.specs.Made.{made}

light : (value : Value) (w : ℕ) → weight value ≡ w → w ≤ 65536 → made value ≡ Some (Ok value)
unfolding made
light value w e h = let test : nat_le (weight value) 65536 ≡ true = grind (arith, nat_tests) in rw test refl

heavy : (value : Value) (w : ℕ) → weight value ≡ w → 65536 < w → made value ≡ Some (Err Weight)
unfolding made
heavy value w e h = let test : nat_le (weight value) 65536 ≡ false = grind (arith, nat_tests) in rw test refl

weight_text : (text : List ℕ) → weight (whole.Str text) ≡ 1 + length text
weight_text text = weight_is (whole.Str text) ∙ ap layer_weight (outs-Str text)

weight_nil : weight (whole.Opt None) ≡ 1
weight_nil = weight_is (whole.Opt None) ∙ ap layer_weight (outs-Opt None)

weight_some : (value : Value) → weight (whole.Opt (Some value)) ≡ 1 + weight value
weight_some value = weight_is (whole.Opt (Some value)) ∙ ap layer_weight (outs-Opt (Some value))

pub made_text_light : (text : List ℕ) → length text < 65536 → made (whole.Str text) ≡ Some (Ok (whole.Str text))
made_text_light text h = light (whole.Str text) (1 + length text) (weight_text text) (omega arith)

pub made_text_heavy : (text : List ℕ) → 65536 ≤ length text → made (whole.Str text) ≡ Some (Err Weight)
made_text_heavy text h = heavy (whole.Str text) (1 + length text) (weight_text text) (omega arith)

pub made_list_light : (parts : List Value) → sum (map weight parts) < 65536 → made (whole.List parts) ≡ Some (Ok (whole.List parts))
made_list_light parts h = light (whole.List parts) (1 + sum (map weight parts)) (weight-List parts) (omega arith)

pub made_list_heavy : (parts : List Value) → 65536 ≤ sum (map weight parts) → made (whole.List parts) ≡ Some (Err Weight)
made_list_heavy parts h = heavy (whole.List parts) (1 + sum (map weight parts)) (weight-List parts) (omega arith)

pub made_struct_light : (kind : ℕ) (parts : List Value) → sum (map weight parts) < 65536 → made (whole.Struct kind parts) ≡ Some (Ok (whole.Struct kind parts))
made_struct_light kind parts h = light (whole.Struct kind parts) (1 + sum (map weight parts)) (weight-Struct kind parts) (omega arith)

pub made_struct_heavy : (kind : ℕ) (parts : List Value) → 65536 ≤ sum (map weight parts) → made (whole.Struct kind parts) ≡ Some (Err Weight)
made_struct_heavy kind parts h = heavy (whole.Struct kind parts) (1 + sum (map weight parts)) (weight-Struct kind parts) (omega arith)

pub made_some_light : (value : Value) → weight value < 65536 → made (whole.Opt (Some value)) ≡ Some (Ok (whole.Opt (Some value)))
made_some_light value h = light (whole.Opt (Some value)) (1 + weight value) (weight_some value) (omega arith)

pub made_some_heavy : (value : Value) → 65536 ≤ weight value → made (whole.Opt (Some value)) ≡ Some (Err Weight)
made_some_heavy value h = heavy (whole.Opt (Some value)) (1 + weight value) (weight_some value) (omega arith)

pub made_nil : made (whole.Opt None) ≡ Some (Ok (whole.Opt None))
made_nil = light (whole.Opt None) 1 weight_nil (omega arith)

pub weights_append : (parts more : List Value) → sum (map weight (parts ++ more)) ≡ sum (map weight parts) + sum (map weight more)
weights_append parts more =
    sum-map weight (parts ++ more) ∙ sum_by-append weight parts more ∙ (rw (sum-map weight parts, sum-map weight more) refl)

pub weights_push : (parts : List Value) (item : Value) → sum (map weight (parts ++ item ∷ [])) ≡ sum (map weight parts) + weight item
weights_push parts item = weights_append parts (item ∷ []) ∙ (omega arith)

pub weights_insert : (parts : List Value) (at : ℕ) (item : Value) → sum (map weight (insert parts at item)) ≡ sum (map weight parts) + weight item
weights_insert parts at item =
    sum-map weight (insert parts at item) ∙ sum_by-insert weight parts at item ∙ (rw (sum-map weight parts) refl)

pub lengths_append : (text more : List ℕ) → length (text ++ more) ≡ length text + length more
lengths_append text more = length-append text more
