-- A list that is searched from the left: one more item, and the end.
use Rattle.std.proofs.Common.{◌≡◌, ℕ, zero, suc, ◌<◌, ◌≤◌, ◌+◌, List, [], ◌∷◌, ◌++◌, length, drop, Option, Some, None, slice_index_or, refl, sym, ap, subst, ◌∙◌, arith, append_assoc}
use Rattle.type_base.specs.Claims.{and_then}

opened_suc : {A : Type 0} (xs : List A) (i : ℕ) (d : A) → i < length xs → drop i xs ≡ slice_index_or xs i d ∷ drop (suc i) xs
opened_suc [] i d lt = absurd (omega arith)
opened_suc (x ∷ xs) zero d lt = refl
opened_suc (x ∷ xs) (suc i) d lt = opened_suc xs i d (omega arith)

pub opened : {A : Type 0} (xs : List A) (i : ℕ) (x : A) → i < length xs → x ≡ slice_index_or xs i x → drop i xs ≡ x ∷ drop (i + 1) xs
opened xs i x lt is =
    let e : suc i ≡ i + 1 = omega arith in
    subst (λ n. drop i xs ≡ x ∷ drop n xs) e (opened_suc xs i x lt ∙ ap (λ v. v ∷ drop (suc i) xs) (sym is))

pub ended : {A : Type 0} (xs : List A) (i : ℕ) → length xs ≤ i → drop i xs ≡ []
ended [] zero le = refl
ended [] (suc i) le = refl
ended (x ∷ xs) zero le = absurd (omega arith)
ended (x ∷ xs) (suc i) le = ended xs i (omega arith)

pub whole : {B : Type 0} (o : Option (List B)) → o ≡ and_then o (λ rest. Some ([] ++ rest))
unfolding and_then
whole None = refl
whole (Some rest) = refl

pub moved : {B : Type 0} (o : Option (List B)) (new so_far : List B) → and_then (and_then o (λ rest. Some (new ++ rest))) (λ rest. Some (so_far ++ rest)) ≡ and_then o (λ rest. Some ((so_far ++ new) ++ rest))
unfolding and_then
moved None new so_far = refl
moved (Some rest) new so_far = ap Some (sym (append_assoc so_far new rest))
