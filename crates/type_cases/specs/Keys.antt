-- What the values of one kind are told apart by: a number, a truth, the bytes of a text, or the place of a case.
use Rattle.std.specs.Prelude.{ℕ, ℤ, zero, suc, Bool, true, ◌&&◌, List, Option, Some, None}
use Rattle.std.specs.List.{filter_map}
use Rattle.sv_value.specs.declared.value.Value.{Value, out-Value}
use Rattle.sv_value.specs.declared.value.Value.TheOpen.{Value-F}

abbrev pub number_at : Value-F Value → Option ℤ
number_at (Value-F.Int n) = Some n
number_at _ = None

abbrev pub truth_at : Value-F Value → Option Bool
truth_at (Value-F.Bool b) = Some b
truth_at _ = None

abbrev pub text_at : Value-F Value → Option (List ℕ)
text_at (Value-F.Str text) = Some text
text_at _ = None

abbrev pub place_at : Value-F Value → Option ℕ
place_at (Value-F.Case kind place) = Some place
place_at _ = None

-- the keys of those values that have one, in order
abbrev pub keys : {K : Type 0} → (Value-F Value → Option K) → List Value → List K
keys f vs = filter_map (λ v. f (out-Value v)) vs

-- the test holds of each number below this one
abbrev pub all_below : (ℕ → Bool) → ℕ → Bool
all_below test zero = true
all_below test (suc n) = all_below test n && test n
