-- Numbers with a sign before them, and words joined.
use Rattle.std.proofs.Common.{◌≡◌, ℕ, ℤ, zero, suc, pos, negsuc, neg_ℤ, ◌<ℤ◌, ◌≤ℤ◌, ◌+◌, ◌<◌, ◌≤◌, Bool, true, false, List, [], ◌∷◌, ◌++◌, length, take, Option, Some, None, slice_index_or, refl, sym, ap, subst, ◌∙◌, arith, append-nil, append_assoc}
use Rattle.std.proofs.lemmas.Int.{ints}
use Rattle.std.specs.List.{concat}
use Rattle.std.specs.Str.{IsUtf8, is_utf8}
use Rattle.std.proofs.lemmas.Str.{IsUtf8-from_is_utf8, is_utf8-from_IsUtf8}
use Rattle.sv_value.specs.declared.value.Value.{Value}
use Rattle.sv_value.specs.declared.value.Value.TheVariants as value
use Rattle.type_base.specs.Claims.{when}
use Rattle.case_rules.specs.Patterns.{minus_at}

pub minus_some : (n : ℤ) → pos 0 ≤ℤ n → minus_at n ≡ Some (value.Int (neg_ℤ n))
minus_some (pos n) le = refl
minus_some (negsuc n) le = absurd (omega (arith, ints))

pub minus_none : (n : ℤ) → n <ℤ pos 0 → minus_at n ≡ None
minus_none (pos n) lt = absurd (omega (arith, ints))
minus_none (negsuc n) lt = refl

concat_take : (ws : List (List ℕ)) (i : ℕ) (d : List ℕ) → i < length ws → concat (take (suc i) ws) ≡ concat (take i ws) ++ slice_index_or ws i d
concat_take [] i d lt = absurd (omega arith)
concat_take (w ∷ ws) zero d lt = append-nil w
concat_take (w ∷ ws) (suc i) d lt = ap (λ bs. w ++ bs) (concat_take ws i d (omega arith)) ∙ sym (append_assoc w (concat (take i ws)) (slice_index_or ws i d))

pub concat_turn : (ws : List (List ℕ)) (i : ℕ) (w : List ℕ) → i < length ws → w ≡ slice_index_or ws i w → concat (take (i + 1) ws) ≡ concat (take i ws) ++ w
concat_turn ws i w lt is = let e : i + 1 ≡ suc i = omega arith in rw e (concat_take ws i w lt ∙ ap (λ v. concat (take i ws) ++ v) (sym is))

pub concat_end : (ws : List (List ℕ)) (i : ℕ) → length ws ≤ i → concat (take i ws) ≡ concat ws
concat_end [] i le = take_none i
  where
    take_none : (i : ℕ) → concat (take i []) ≡ []
    take_none zero = refl
    take_none (suc i) = refl
concat_end (w ∷ ws) zero le = absurd (omega arith)
concat_end (w ∷ ws) (suc i) le = ap (λ bs. w ++ bs) (concat_end ws i (omega arith))

pub text_some : (bs : List ℕ) → IsUtf8 bs → when (is_utf8 bs) (Some (value.Str bs)) ≡ Some (value.Str bs)
text_some bs h = rw (is_utf8-from_IsUtf8 bs h) refl

text_none_at : (bs : List ℕ) (b : Bool) → is_utf8 bs ≡ b → (IsUtf8 bs → ⊥) → when b (Some (value.Str bs)) ≡ None
text_none_at bs true e h = absurd (h (IsUtf8-from_is_utf8 bs e))
text_none_at bs false e h = refl

pub text_none : (bs : List ℕ) → (IsUtf8 bs → ⊥) → when (is_utf8 bs) (Some (value.Str bs)) ≡ None
text_none bs h = text_none_at bs (is_utf8 bs) refl h
