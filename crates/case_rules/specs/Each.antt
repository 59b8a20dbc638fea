-- A list whose elements are searched one after the other.
use Rattle.std.specs.Prelude.{◌≡◌, ℕ, zero, suc, ◌+◌, ◌<◌, ◌≤◌, List, [], ◌∷◌, ◌++◌, length, drop, Option, Some, None, slice_index_or}
use Rattle.std.proofs.Common.{refl, sym, ap, subst, ◌∙◌, arith, append_assoc}
use Rattle.std.proofs.lemmas.List.{append-nil}
use Rattle.type_base.specs.Claims.{Reads, Then, and_then, reads_give, reads_then}

-- what is related to each element, in order
unfoldable pub Each : {X Y : Type 0} → (X → Y → Type 0) → List X → List Y → Type 0
Each R [] ys = ys ≡ []
Each {Y = Y} R (x ∷ xs) ys =
    (y : Y) × R x y ×
    ((rest : List Y) × Each R xs rest ×
    (ys ≡ y ∷ rest))

-- what is found for each element, where something is found for all
unfoldable pub every : {X Y : Type 0} → (X → Option Y) → List X → Option (List Y)
every f [] = Some []
every f (x ∷ xs) = and_then (f x) (λ y. and_then (every f xs) (λ rest. Some (y ∷ rest)))

pub every_exact : {X Y : Type 0} {f : X → Option Y} {R : X → Y → Type 0} → ((x : X) → Reads (f x) (R x)) → (xs : List X) → Reads (every f xs) (Each R xs)
unfolding every Each Then
every_exact h [] = reads_give _
every_exact h (x ∷ xs) = reads_then (h x) (λ y. reads_then (every_exact h xs) (λ rest. reads_give _))

-- ---- from the left: one more element, the end, and an element that is not found

opened_suc : {A : Type 0} (xs : List A) (i : ℕ) (d : A) → i < length xs → drop i xs ≡ slice_index_or xs i d ∷ drop (suc i) xs
opened_suc [] i d lt = absurd (omega arith)
opened_suc (x ∷ xs) zero d lt = refl
opened_suc (x ∷ xs) (suc i) d lt = opened_suc xs i d (omega arith)

pub opened : {A : Type 0} (xs : List A) (i : ℕ) (d : A) → i < length xs → drop i xs ≡ slice_index_or xs i d ∷ drop (i + 1) xs
opened xs i d lt = let e : suc i ≡ i + 1 = omega arith in subst (λ n. drop i xs ≡ slice_index_or xs i d ∷ drop n xs) e (opened_suc xs i d lt)

pub ended : {A : Type 0} (xs : List A) (i : ℕ) → length xs ≤ i → drop i xs ≡ []
ended [] zero le = refl
ended [] (suc i) le = refl
ended (x ∷ xs) zero le = absurd (omega arith)
ended (x ∷ xs) (suc i) le = ended xs i (omega arith)

-- the rest is found as the whole
abbrev pub EveryRest : {X Y : Type 0} → (X → Option Y) → List X → ℕ → List Y → Type 0
EveryRest f xs i ys = every f xs ≡ and_then (every f (drop i xs)) (λ rest. Some (ys ++ rest))

every_step : {X Y : Type 0} (f : X → Option Y) (xs : List X) (i : ℕ) (x : X) (o : Option Y) → i < length xs → x ≡ slice_index_or xs i x → f x ≡ o
    → every f (drop i xs) ≡ and_then o (λ y. and_then (every f (drop (i + 1) xs)) (λ rest. Some (y ∷ rest)))
unfolding every
every_step f xs i x o lt is w = ap (every f) (opened xs i x lt) ∙ rw (sym is, w) refl

moved : {Y : Type 0} (o : Option (List Y)) (y : Y) (ys : List Y) → and_then (and_then o (λ rest. Some (y ∷ rest))) (λ rest. Some (ys ++ rest)) ≡ and_then o (λ rest. Some ((ys ++ y ∷ []) ++ rest))
unfolding and_then
moved None y ys = refl
moved (Some rest) y ys = ap Some (sym (append_assoc ys (y ∷ []) rest))

pub every_turn : {X Y : Type 0} (f : X → Option Y) (xs : List X) (i : ℕ) (ys : List Y) (x : X) (y : Y) → i < length xs → x ≡ slice_index_or xs i x → f x ≡ Some y
    → EveryRest f xs i ys → EveryRest f xs (i + 1) (ys ++ y ∷ [])
unfolding and_then
every_turn f xs i ys x y lt is w h = h ∙ ap (λ o. and_then o (λ rest. Some (ys ++ rest))) (every_step f xs i x (Some y) lt is w) ∙ moved _ y ys

pub every_none : {X Y : Type 0} (f : X → Option Y) (xs : List X) (i : ℕ) (ys : List Y) (x : X) → i < length xs → x ≡ slice_index_or xs i x → f x ≡ None
    → EveryRest f xs i ys → every f xs ≡ None
unfolding and_then
every_none f xs i ys x lt is w h = h ∙ ap (λ o. and_then o (λ rest. Some (ys ++ rest))) (every_step f xs i x None lt is w)

pub every_end : {X Y : Type 0} (f : X → Option Y) (xs : List X) (i : ℕ) (ys : List Y) → length xs ≤ i → EveryRest f xs i ys → every f xs ≡ Some ys
unfolding and_then every
every_end f xs i ys le h = h ∙ rw (ended xs i le, append-nil ys) refl

same_every : {Y : Type 0} (o : Option (List Y)) → o ≡ and_then o (λ rest. Some ([] ++ rest))
unfolding and_then
same_every None = refl
same_every (Some r) = refl

pub every_start : {X Y : Type 0} (f : X → Option Y) (xs : List X) → EveryRest f xs 0 []
every_start f xs = same_every (every f xs)
