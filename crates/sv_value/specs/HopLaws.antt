-- What hops find after a new part was put in a value, and what the new part does to the weight.
use Rattle.std.specs.Prelude.{◌≡◌, ℕ, ◌+◌, ◌<◌, ◌≤◌, Bool, false, ℤ, pos, negsuc, Option, Some, None, Result, Ok, Err, List, [], ◌∷◌, ◌++◌, map, sum, length, slice_get, slice_set, slice_index_or}
use Rattle.std.proofs.Common.{zero, suc, refl, sym, ap, ◌∙◌, arith}
use Rattle.std.proofs.lemmas.Option.{get_or_from_slice_get, slice_get_within}
use Rattle.std.proofs.lemmas.List.Sums.{sum_by-set, sum-map}
use Rattle.sv_value.specs.declared.hop.Hop.{Hop}
use Rattle.sv_value.specs.declared.hop.Hop.TheVariants.{Field, Index}
use Rattle.sv_value.specs.declared.hop.Missing.{Missing}
use Rattle.sv_value.specs.declared.value.Value.{Value, out-Value}
use Rattle.sv_value.specs.declared.value.Value.TheVariants as whole
use Rattle.sv_value.specs.declared.value.Value.TheViews.{outs-Bool, outs-List, outs-Struct}
use Rattle.sv_value.specs.declared.value.Value.TheOpen as one
use Rattle.sv_value.specs.declared.value.Value.TheOpen.{Value-F}
use Rattle.sv_value.specs.declared.value.Value.TheFolds.{map-Value, fold_out-Value}
use Rattle.sv_value.specs.Value.{weight, weight_step}
use Rattle.sv_value.specs.Hops.{element_or, element, field_or, field, hop_from, then_part, part_at, changed_by, with_part}

-- one level's weight
abbrev pub layer_weight : Value-F Value → ℕ
layer_weight layer = weight_step (map-Value Value ℕ weight layer)

pub weight_is : (value : Value) → weight value ≡ layer_weight (out-Value value)
weight_is = fold_out-Value ℕ weight_step

pub weight-List : (parts : List Value) → weight (whole.List parts) ≡ 1 + sum (map weight parts)
weight-List parts = weight_is (whole.List parts) ∙ ap layer_weight (outs-List parts)

pub weight-Struct : (kind : ℕ) (parts : List Value) → weight (whole.Struct kind parts) ≡ 1 + sum (map weight parts)
weight-Struct kind parts = weight_is (whole.Struct kind parts) ∙ ap layer_weight (outs-Struct kind parts)

-- one part of a list in place of another
pub sum-slice_set : (parts : List Value) (at : ℕ) (part new : Value) → slice_get parts at ≡ Some part → sum (map weight (slice_set parts at new)) + weight part ≡ sum (map weight parts) + weight new
sum-slice_set parts at part new there =
    let set = sum_by-set weight parts at new part (slice_get_within parts at part there) in
    omega (arith, sum-map weight parts, sum-map weight (slice_set parts at new), ap weight (get_or_from_slice_get parts at part part there))

field_there : (o : Option Value) (part : Value) → field_or o ≡ Some (Ok part) → o ≡ Some part
field_there None part e = cc
field_there (Some p) part e = cc

element_there : (index : ℤ) (o : Option Value) (part : Value) → Some (element_or index o) ≡ Some (Ok part) → o ≡ Some part
element_there index None part e = cc
element_there index (Some p) part e = cc

weight-changed_by : (hop : Hop) (f : Value → Value) (value : Value) (layer : Value-F Value) (part : Value) → hop_from hop layer ≡ Some (Ok part) → weight (changed_by hop f value layer) + weight part ≡ layer_weight layer + weight (f part)
weight-changed_by (Field k) f value (one.Struct kind parts) part e =
    let there = field_there (slice_get parts k) part e in
    let same = get_or_from_slice_get parts k part value there in
    let put = sum-slice_set parts k part (f (slice_index_or parts k value)) there in
    omega (arith, weight-Struct kind (slice_set parts k (f (slice_index_or parts k value))), ap (λ p. weight (f p)) same)
weight-changed_by (Index (pos n)) f value (one.List parts) part e =
    let there = element_there (pos n) (slice_get parts n) part e in
    let same = get_or_from_slice_get parts n part value there in
    let put = sum-slice_set parts n part (f (slice_index_or parts n value)) there in
    omega (arith, weight-List (slice_set parts n (f (slice_index_or parts n value))), ap (λ p. weight (f p)) same)
weight-changed_by (Index (negsuc n)) f value (one.List parts) part e = cc
weight-changed_by hop f value layer part e = cc

then_there : (next : Value → Option (Result Value Missing)) (o : Option (Result Value Missing)) (part : Value) → then_part next o ≡ Some (Ok part) → (p : Value) × (o ≡ Some (Ok p)) × (next p ≡ Some (Ok part))
then_there next None part e = cc
then_there next (Some (Err missing)) part e = cc
then_there next (Some (Ok p)) part e = (p, refl, e)

-- a new part takes the weight of the old one away and adds its own
pub weight-with_part : (hops : List Hop) (new value part : Value) → part_at hops value ≡ Some (Ok part) → weight (with_part hops new value) + weight part ≡ weight value + weight new
weight-with_part [] new value part e = let same : value ≡ part = cc in omega (arith, ap weight same)
weight-with_part (hop ∷ hops) new value part e =
    let first = then_there (part_at hops) (hop_from hop (out-Value value)) part e in
    let below = weight-with_part hops new first.0 part first.2 in
    let here = weight-changed_by hop (with_part hops new) value (out-Value value) first.0 first.1 in
    omega (arith, weight_is value)

layer_weight_positive : (layer : Value-F Value) → 1 ≤ layer_weight layer
layer_weight_positive (one.Int n) = omega arith
layer_weight_positive (one.Bool b) = omega arith
layer_weight_positive (one.Str text) = omega arith
layer_weight_positive (one.List parts) = omega arith
layer_weight_positive (one.Opt None) = omega arith
layer_weight_positive (one.Opt (Some part)) = omega arith
layer_weight_positive (one.Struct kind parts) = omega arith
layer_weight_positive (one.Case kind place) = omega arith

pub weight_positive : (value : Value) → 1 ≤ weight value
weight_positive value = let p = layer_weight_positive (out-Value value) in omega (arith, weight_is value)

pub weight-Bool : (b : Bool) → weight (whole.Bool b) ≡ 1
weight-Bool b = weight_is (whole.Bool b) ∙ ap layer_weight (outs-Bool b)

-- a part weighs no more than the whole
pub weight-part_at : (hops : List Hop) (value part : Value) → part_at hops value ≡ Some (Ok part) → weight part ≤ weight value
weight-part_at hops value part e =
    let with_one = weight-with_part hops (whole.Bool false) value part e in
    let positive = weight_positive (with_part hops (whole.Bool false) value) in
    omega (arith, weight-Bool false)

pub slice_get-set_same : {X : Type 0} (xs : List X) (i : ℕ) (new : X) → i < length xs → slice_get (slice_set xs i new) i ≡ Some new
slice_get-set_same [] i new h = absurd (omega arith)
slice_get-set_same (x ∷ xs) zero new h = refl
slice_get-set_same (x ∷ xs) (suc i) new h = slice_get-set_same xs i new (omega arith)

hop_from-changed_by : (hop : Hop) (f : Value → Value) (value : Value) (layer : Value-F Value) (part : Value) → hop_from hop layer ≡ Some (Ok part) → hop_from hop (out-Value (changed_by hop f value layer)) ≡ Some (Ok (f part))
hop_from-changed_by (Field k) f value (one.Struct kind parts) part e =
    let there = field_there (slice_get parts k) part e in
    let new = f (slice_index_or parts k value) in
    ap (hop_from (Field k)) (outs-Struct kind (slice_set parts k new))
    ∙ ap field_or (slice_get-set_same parts k new (slice_get_within parts k part there))
    ∙ ap (λ p. Some (Ok (f p))) (get_or_from_slice_get parts k part value there)
hop_from-changed_by (Index (pos n)) f value (one.List parts) part e =
    let there = element_there (pos n) (slice_get parts n) part e in
    let new = f (slice_index_or parts n value) in
    ap (hop_from (Index (pos n))) (outs-List (slice_set parts n new))
    ∙ ap (λ o. Some (element_or (pos n) o)) (slice_get-set_same parts n new (slice_get_within parts n part there))
    ∙ ap (λ p. Some (Ok (f p))) (get_or_from_slice_get parts n part value there)
hop_from-changed_by (Index (negsuc n)) f value (one.List parts) part e = cc
hop_from-changed_by hop f value layer part e = cc

-- what was put at the hops stands there
pub part_at-with_part : (hops : List Hop) (new value part : Value) → part_at hops value ≡ Some (Ok part) → part_at hops (with_part hops new value) ≡ Some (Ok new)
part_at-with_part [] new value part e = refl
part_at-with_part (hop ∷ hops) new value part e =
    let first = then_there (part_at hops) (hop_from hop (out-Value value)) part e in
    ap (then_part (part_at hops)) (hop_from-changed_by hop (with_part hops new) value (out-Value value) first.0 first.1)
    ∙ part_at-with_part hops new first.0 part first.2

then_part_along : (f g h : Value → Option (Result Value Missing)) → ((p : Value) → f p ≡ then_part g (h p)) → (o : Option (Result Value Missing)) → then_part f o ≡ then_part g (then_part h o)
then_part_along f g h e None = refl
then_part_along f g h e (Some (Err missing)) = refl
then_part_along f g h e (Some (Ok p)) = e p

-- further hops go on from where the first ones lead
pub part_at-append : (hops more : List Hop) (value : Value) → part_at (hops ++ more) value ≡ then_part (part_at more) (part_at hops value)
part_at-append [] more value = refl
part_at-append (hop ∷ hops) more value = then_part_along (part_at (hops ++ more)) (part_at more) (part_at hops) (part_at-append hops more) (hop_from hop (out-Value value))
