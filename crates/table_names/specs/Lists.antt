-- Where the elements of lists stand that are made one element after the other.
use Rattle.std.specs.Prelude.{◌≡◌, ℕ, zero, suc, ◌+◌, List, [], ◌∷◌, ◌++◌, length, map, Some, slice_get}
use Rattle.std.specs.List.{sum_by, flat_map}
use Rattle.std.proofs.Common.{◌⊎◌, refl, sym, ap, ◌∙◌, inl, inr, arith, append_assoc, append-nil, length-append}
use Rattle.std.proofs.lemmas.List.{map-append}
use Rattle.std.proofs.lemmas.List.Sums.{sum_by-cons}
use Rattle.type_table.specs.Along.{along_from, along}

-- ---- an element of two lists joined

pub get_append : {X : Type 0} (xs ys : List X) (i : ℕ) (y : X) → slice_get (xs ++ ys) i ≡ Some y
    → (slice_get xs i ≡ Some y) ⊎ ((k : ℕ) × (i ≡ length xs + k) × (slice_get ys k ≡ Some y))
get_append [] ys i y e = inr (i, omega arith, e)
get_append (x ∷ xs) ys zero y e = inl e
get_append (x ∷ xs) ys (suc i) y e = elim (get_append xs ys i y e) [ inl h ↦ inl h | inr w ↦ inr (w.0, omega (arith, w.1), w.2) ]

pub get_left : {X : Type 0} (xs ys : List X) (i : ℕ) (y : X) → slice_get xs i ≡ Some y → slice_get (xs ++ ys) i ≡ Some y
get_left [] ys i y e = cc
get_left (x ∷ xs) ys zero y e = e
get_left (x ∷ xs) ys (suc i) y e = get_left xs ys i y e

pub get_right : {X : Type 0} (xs ys : List X) (k : ℕ) → slice_get (xs ++ ys) (length xs + k) ≡ slice_get ys k
get_right [] ys k = let h : 0 + k ≡ k = omega arith in ap (slice_get ys) h
get_right (x ∷ xs) ys k = let h : suc (length xs) + k ≡ suc (length xs + k) = omega arith in ap (slice_get (x ∷ xs ++ ys)) h ∙ get_right xs ys k

pub get_middle : {X : Type 0} (xs ys : List X) (x : X) → slice_get (xs ++ x ∷ ys) (length xs) ≡ Some x
get_middle xs ys x = let h : length xs ≡ length xs + 0 = omega arith in ap (slice_get (xs ++ x ∷ ys)) h ∙ get_right xs (x ∷ ys) 0

-- the elements before an element, and those after it
pub record Split {X : Type 0} (xs : List X) (i : ℕ) (x : X) : Type 0 where
  pub before : List X
  pub after : List X
  pub split : xs ≡ before ++ x ∷ after
  pub place : i ≡ length before

pub split_at : {X : Type 0} (xs : List X) (i : ℕ) (x : X) → slice_get xs i ≡ Some x → Split xs i x
split_at [] i x e = cc
split_at (y ∷ ys) zero x e = let h : y ≡ x = cc in record { before = []; after = ys; split = ap (λ z. z ∷ ys) h; place = refl }
split_at (y ∷ ys) (suc i) x e =
    let s = split_at ys i x e in
    record { before = y ∷ s.before; after = s.after; split = ap (λ zs. y ∷ zs) s.split; place = ap suc s.place }

-- ---- an element of what each element gives

-- it is given by one of the elements, and stands behind what those before it give
pub record From {X Y : Type 0} (f : List X → X → List Y) (done xs : List X) (i : ℕ) (y : Y) : Type 0 where
  pub before : List X
  pub one : X
  pub after : List X
  pub split : xs ≡ before ++ one ∷ after
  pub at : ℕ
  pub place : i ≡ length (along_from f done before) + at
  pub stands : slice_get (f (done ++ before) one) at ≡ Some y

from_at : {X Y : Type 0} (f : List X → X → List Y) (done xs : List X) (i : ℕ) (y : Y) → slice_get (along_from f done xs) i ≡ Some y → From f done xs i y
from_at f done [] i y e = cc
from_at f done (x ∷ xs) i y e = elim (get_append (f done x) (along_from f (done ++ x ∷ []) xs) i y e) [
  | inl h ↦ record {
    before = [];
    one = x;
    after = xs;
    split = refl;
    at = i;
    place = omega arith;
    stands = ap (λ d. slice_get (f d x) i) (append-nil done) ∙ h;
  }
  | inr w ↦
      let r = from_at f (done ++ x ∷ []) xs w.0 y w.2 in
      record {
        before = x ∷ r.before;
        one = r.one;
        after = r.after;
        split = ap (λ zs. x ∷ zs) r.split;
        at = r.at;
        place = let h = length-append (f done x) (along_from f (done ++ x ∷ []) r.before) in omega (arith, w.1, r.place, h);
        stands = ap (λ d. slice_get (f d r.one) r.at) (sym (append_assoc done (x ∷ []) r.before)) ∙ r.stands;
      }
]

pub given_by : {X Y : Type 0} (f : List X → X → List Y) (xs : List X) (i : ℕ) (y : Y) → slice_get (along f xs) i ≡ Some y → From f [] xs i y
unfolding along
given_by f xs i y e = from_at f [] xs i y e

along_from-append : {X Y : Type 0} (f : List X → X → List Y) (done xs ys : List X) → along_from f done (xs ++ ys) ≡ along_from f done xs ++ along_from f (done ++ xs) ys
along_from-append f done [] ys = ap (λ d. along_from f d ys) (sym (append-nil done))
along_from-append f done (x ∷ xs) ys =
    ap (λ r. f done x ++ r) (along_from-append f (done ++ x ∷ []) xs ys ∙ ap (λ d. along_from f (done ++ x ∷ []) xs ++ along_from f d ys) (append_assoc done (x ∷ []) xs))
    ∙ sym (append_assoc (f done x) (along_from f (done ++ x ∷ []) xs) (along_from f (done ++ x ∷ xs) ys))

-- what an element gives stands behind what those before it give
pub gives_at : {X Y : Type 0} (f : List X → X → List Y) (before after : List X) (x : X) (k : ℕ) (y : Y) → slice_get (f before x) k ≡ Some y
    → slice_get (along f (before ++ x ∷ after)) (length (along f before) + k) ≡ Some y
unfolding along
gives_at f before after x k y e =
    ap (λ r. slice_get r (length (along_from f [] before) + k)) (along_from-append f [] before (x ∷ after))
    ∙ get_right (along_from f [] before) (f before x ++ along_from f (before ++ x ∷ []) after) k
    ∙ get_left (f before x) (along_from f (before ++ x ∷ []) after) k y e

-- ---- lengths, and what is read of each element

length_from : {X Y : Type 0} (f : List X → X → List Y) (g : X → ℕ) → ((before : List X) (x : X) → length (f before x) ≡ g x) → (done xs : List X) → length (along_from f done xs) ≡ sum_by g xs
length_from f g h done [] = refl
length_from f g h done (x ∷ xs) =
    length-append (f done x) (along_from f (done ++ x ∷ []) xs)
    ∙ (λ i. h done x i + length_from f g h (done ++ x ∷ []) xs i)
    ∙ sym (sum_by-cons g x xs)

pub length_along : {X Y : Type 0} (f : List X → X → List Y) (g : X → ℕ) → ((before : List X) (x : X) → length (f before x) ≡ g x) → (xs : List X) → length (along f xs) ≡ sum_by g xs
unfolding along
length_along f g h xs = length_from f g h [] xs

ones : {X : Type 0} (xs : List X) → sum_by (λ (x : X). 1) xs ≡ length xs
ones [] = refl
ones {X = X} (x ∷ xs) = sum_by-cons (λ (y : X). 1) x xs ∙ ap (λ n. 1 + n) (ones xs) ∙ (let h : 1 + length xs ≡ suc (length xs) = omega arith in h)

-- a list of one for each element is as long as the elements
pub length_each : {X Y : Type 0} (g : List X → X → Y) (xs : List X) → length (along (λ before x. g before x ∷ []) xs) ≡ length xs
length_each {X = X} g xs = length_along (λ before x. g before x ∷ []) (λ (x : X). 1) (λ before x. refl) xs ∙ ones xs

map_from : {X Y Z : Type 0} (f : List X → X → List Y) (h : Y → Z) (k : X → List Z) → ((before : List X) (x : X) → map h (f before x) ≡ k x) → (done xs : List X) → map h (along_from f done xs) ≡ flat_map k xs
map_from f h k is done [] = refl
map_from f h k is done (x ∷ xs) =
    map-append h (f done x) (along_from f (done ++ x ∷ []) xs)
    ∙ ap (λ r. r ++ map h (along_from f (done ++ x ∷ []) xs)) (is done x)
    ∙ ap (λ r. k x ++ r) (map_from f h k is (done ++ x ∷ []) xs)

pub map_along : {X Y Z : Type 0} (f : List X → X → List Y) (h : Y → Z) (k : X → List Z) → ((before : List X) (x : X) → map h (f before x) ≡ k x) → (xs : List X) → map h (along f xs) ≡ flat_map k xs
unfolding along
map_along f h k is xs = map_from f h k is [] xs

-- where each element gives one, the element at the same place gives it
pub record Each {X Y : Type 0} (g : List X → X → Y) (xs : List X) (i : ℕ) (y : Y) : Type 0 where
  pub one : X
  pub stands : Split xs i one
  pub is : y ≡ g stands.before one

each_by : {X Y : Type 0} (g : List X → X → Y) (xs before after : List X) (one : X) (i at : ℕ) (y : Y) → xs ≡ before ++ one ∷ after
    → i ≡ length (along (λ b x. g b x ∷ []) before) + at → slice_get (g before one ∷ []) at ≡ Some y → Each g xs i y
each_by g xs before after one i zero y e p s =
    let h : g before one ≡ y = cc in let l = length_each g before in
    record { one = one; stands = record { before = before; after = after; split = e; place = omega (arith, p, l) }; is = sym h }
each_by g xs before after one i (suc at) y e p s = cc

pub each_at : {X Y : Type 0} (g : List X → X → Y) (xs : List X) (i : ℕ) (y : Y) → slice_get (along (λ before x. g before x ∷ []) xs) i ≡ Some y → Each g xs i y
unfolding along
each_at g xs i y e =
    let r = given_by (λ b x. g b x ∷ []) xs i y e in
    each_by g xs r.before r.after r.one i r.at y r.split r.place r.stands
