-- Elements of lists that grow, are cut and are changed at a place.
use Rattle.std.specs.Prelude.{◌≡◌, ℕ, ◌+◌, ◌<◌, List, [], ◌∷◌, ◌++◌, length, take, Some, None, slice_get, slice_set, ◌⊎◌, ⊤}
use Rattle.std.specs.List.{All}
use Rattle.std.proofs.Common.{zero, suc, refl, ap, ◌∙◌, arith, inl, inr}

pub at_front : {X : Type 0} (xs ys : List X) (i : ℕ) (x : X) → slice_get xs i ≡ Some x → slice_get (xs ++ ys) i ≡ Some x
at_front [] ys i x e = cc
at_front (y ∷ xs) ys zero x e = e
at_front (y ∷ xs) ys (suc i) x e = at_front xs ys i x e

pub at_end : {X : Type 0} (xs : List X) (y : X) → slice_get (xs ++ y ∷ []) (length xs) ≡ Some y
at_end [] y = refl
at_end (x ∷ xs) y = at_end xs y

-- an element of a list with one more
pub one_more : {X : Type 0} (xs : List X) (y : X) (i : ℕ) (x : X) → slice_get (xs ++ y ∷ []) i ≡ Some x → (slice_get xs i ≡ Some x) ⊎ ((i ≡ length xs) × (y ≡ x))
one_more [] y zero x e = inr (refl, cc)
one_more [] y (suc i) x e = cc
one_more (z ∷ xs) y zero x e = inl e
one_more (z ∷ xs) y (suc i) x e = later (one_more xs y i x e)
  where
    later : (slice_get xs i ≡ Some x) ⊎ ((i ≡ length xs) × (y ≡ x)) → (slice_get xs i ≡ Some x) ⊎ ((suc i ≡ suc (length xs)) × (y ≡ x))
    later (inl h) = inl h
    later (inr h) = inr (ap suc h.0, h.1)

-- within what is taken
pub taken : {X : Type 0} (n : ℕ) (xs : List X) (i : ℕ) → i < n → slice_get (take n xs) i ≡ slice_get xs i
taken zero xs i h = absurd (omega (arith, h))
taken (suc n) [] i h = refl
taken (suc n) (x ∷ xs) zero h = refl
taken (suc n) (x ∷ xs) (suc i) h = taken n xs i (omega (arith, h))

pub set_here : {X : Type 0} (xs : List X) (i : ℕ) (x y : X) → slice_get xs i ≡ Some x → slice_get (slice_set xs i y) i ≡ Some y
set_here [] i x y e = cc
set_here (z ∷ xs) zero x y e = refl
set_here (z ∷ xs) (suc i) x y e = set_here xs i x y e

pub set_there : {X : Type 0} (xs : List X) (i j : ℕ) (y : X) → (i ≡ j → ⊥) → slice_get (slice_set xs i y) j ≡ slice_get xs j
set_there [] i j y h = refl
set_there (z ∷ xs) zero zero y h = absurd (h refl)
set_there (z ∷ xs) zero (suc j) y h = refl
set_there (z ∷ xs) (suc i) zero y h = refl
set_there (z ∷ xs) (suc i) (suc j) y h = set_there xs i j y (λ e. h (ap suc e))

pub append_none : {X : Type 0} (xs : List X) → xs ++ [] ≡ xs
append_none [] = refl
append_none (x ∷ xs) = ap (λ l. x ∷ l) (append_none xs)

pub append_twice : {X : Type 0} (xs ys zs : List X) → (xs ++ ys) ++ zs ≡ xs ++ (ys ++ zs)
append_twice [] ys zs = refl
append_twice (x ∷ xs) ys zs = ap (λ l. x ∷ l) (append_twice xs ys zs)

pub some_same : {X : Type 0} (x y : X) → Some x ≡ Some y → x ≡ y
some_same x y e = cc

pub none_is : {X : Type 0} (x : X) → None ≡ Some x → ⊥
none_is x e = cc

-- ---- what holds of each element

abbrev pub Each : {A : Type 0} → (A → Type 0) → List A → Type 0
Each P [] = ⊤
Each P (x ∷ xs) = P x × Each P xs

pub each_front : {A : Type 0} (P : A → Type 0) (xs ys : List A) → Each P (xs ++ ys) → Each P xs
each_front P [] ys h = tt
each_front P (x ∷ xs) ys h = (h.0, each_front P xs ys h.1)

pub each_back : {A : Type 0} (P : A → Type 0) (xs ys : List A) → Each P (xs ++ ys) → Each P ys
each_back P [] ys h = h
each_back P (x ∷ xs) ys h = each_back P xs ys h.1

pub each_pushed : {A : Type 0} (P : A → Type 0) (xs : List A) (y : A) → Each P xs → P y → Each P (xs ++ y ∷ [])
each_pushed P [] y h k = (k, tt)
each_pushed P (x ∷ xs) y h k = (h.0, each_pushed P xs y h.1 k)

pub each_all : {A : Type 0} (P : A → Type 0) (xs : List A) → Each P xs → All P xs
each_all P [] h k d e = absurd (omega (arith, e))
each_all P (x ∷ xs) h zero d e = h.0
each_all P (x ∷ xs) h (suc k) d e = each_all P xs h.1 k d (omega (arith, e))

pub each_join : {A : Type 0} (P : A → Type 0) (xs ys : List A) → Each P xs → Each P ys → Each P (xs ++ ys)
each_join P [] ys h k = k
each_join P (x ∷ xs) ys h k = (h.0, each_join P xs ys h.1 k)

-- an element of one list or of the other
pub at_either : {X : Type 0} (xs ys : List X) (i : ℕ) (x : X) → slice_get (xs ++ ys) i ≡ Some x → (slice_get xs i ≡ Some x) ⊎ ((j : ℕ) × (i ≡ length xs + j) × (slice_get ys j ≡ Some x))
at_either [] ys i x e = inr (i, omega arith, e)
at_either (z ∷ xs) ys zero x e = inl e
at_either (z ∷ xs) ys (suc i) x e = later (at_either xs ys i x e)
  where
    later : (slice_get xs i ≡ Some x) ⊎ ((j : ℕ) × (i ≡ length xs + j) × (slice_get ys j ≡ Some x)) → (slice_get xs i ≡ Some x) ⊎ ((j : ℕ) × (suc i ≡ suc (length xs) + j) × (slice_get ys j ≡ Some x))
    later (inl h) = inl h
    later (inr h) = inr (h.0, omega (arith, h.1), h.2)

pub at_back : {X : Type 0} (xs ys : List X) (j : ℕ) → slice_get (xs ++ ys) (length xs + j) ≡ slice_get ys j
at_back [] ys j = ap (slice_get ys) (omega arith)
at_back (x ∷ xs) ys j = next (length xs + j) (omega arith) ∙ at_back xs ys j
  where
    next : (n : ℕ) → suc (length xs) + j ≡ suc n → slice_get (x ∷ (xs ++ ys)) (suc (length xs) + j) ≡ slice_get (xs ++ ys) n
    next n e = ap (slice_get (x ∷ (xs ++ ys))) e
