-- A turn of each loop that makes a part of the table.
use Rattle.std.proofs.Common.{◌≡◌, ℕ, zero, suc, ◌+◌, ◌<◌, ◌≤◌, Bool, true, false, cond, List, [], ◌∷◌, ◌++◌, length, take, map, min, nat_le, refl, sym, ap, subst, ◌∙◌, arith, append_assoc, append-nil, length-append, slice_index_or, inl, inr}
use Rattle.std.specs.List.{sum_by, count_by}
use Rattle.std.proofs.lemmas.List.{map-append, length-map, take_more, take_all, take-append-le, length-take-le}
use Rattle.std.proofs.lemmas.List.Sums.{sum_by_more}
use Rattle.std.proofs.lemmas.Bool.{cases_Bool}
use Rattle.std.proofs.lemmas.Bool.{leb-true, leb-false}
use Rattle.name_map.specs.Names.{Places, no_names, with_new, with_new_names, with_new_names-push}
use Rattle.type_table.specs.Along.{greatest, narrow, widest, wide, along_from, along, first_places, with_place}

-- ---- lists

along_from-push : {X Y : Type 0} (f : List X → X → List Y) (before xs : List X) (x : X) → along_from f before (xs ++ x ∷ []) ≡ along_from f before xs ++ f (before ++ xs) x
along_from-push f before [] x = append-nil (f before x) ∙ ap (λ b. f b x) (sym (append-nil before))
along_from-push f before (y ∷ ys) x =
    ap (λ r. f before y ++ r) (along_from-push f (before ++ y ∷ []) ys x ∙ ap (λ b. along_from f (before ++ y ∷ []) ys ++ f b x) (append_assoc before (y ∷ []) ys))
    ∙ sym (append_assoc (f before y) (along_from f (before ++ y ∷ []) ys) (f (before ++ y ∷ ys) x))

-- one element more
pub along-push : {X Y : Type 0} (f : List X → X → List Y) (xs : List X) (x : X) → along f (xs ++ x ∷ []) ≡ along f xs ++ f xs x
unfolding along
along-push f xs x = along_from-push f [] xs x

pub take-turn : {X : Type 0} (xs : List X) (i : ℕ) (x : X) → i < length xs → x ≡ slice_index_or xs i x → take (i + 1) xs ≡ take i xs ++ x ∷ []
take-turn xs i x lt e = take_more xs i x lt ∙ ap (λ y. take i xs ++ y ∷ []) (sym e)

pub along-turn : {X Y : Type 0} (f : List X → X → List Y) (xs : List X) (i : ℕ) (x : X) → i < length xs → x ≡ slice_index_or xs i x
    → along f (take (i + 1) xs) ≡ along f (take i xs) ++ f (take i xs) x
along-turn f xs i x lt e = ap (along f) (take-turn xs i x lt e) ∙ along-push f (take i xs) x

pub along-none : {X Y : Type 0} (f : List X → X → List Y) → along f [] ≡ []
unfolding along
along-none f = refl

-- a list of one for each element is as long as the elements
pub length-along : {X Y : Type 0} (f : List X → X → Y) (xs : List X) → length (along (λ before x. f before x ∷ []) xs) ≡ length xs
unfolding along
length-along {X = X} f xs = from [] xs
  where
    from : (before ys : List X) → length (along_from (λ before x. f before x ∷ []) before ys) ≡ length ys
    from before [] = refl
    from before (y ∷ ys) = ap suc (from (before ++ y ∷ []) ys)

-- ---- numbers

pub narrow-sum : (m n : ℕ) → narrow (narrow m + n) ≡ narrow (m + n)
unfolding narrow
narrow-sum m n = omega arith

pub narrow-zero : narrow 0 ≡ 0
unfolding narrow greatest
narrow-zero = refl

pub narrow-sums : (m n : ℕ) → narrow (m + narrow n) ≡ narrow (m + n)
unfolding narrow
narrow-sums m n = omega arith

pub wide-sum : (m n : ℕ) → wide (wide m + n) ≡ wide (m + n)
unfolding wide
wide-sum m n = omega arith

pub wide-sums : (m n : ℕ) → wide (m + wide n) ≡ wide (m + n)
unfolding wide
wide-sums m n = omega arith

pub wide-zero : wide 0 ≡ 0
unfolding wide widest
wide-zero = refl

pub wide_plus : (n : ℕ) → wide (0 + n) ≡ wide n
wide_plus n = ap wide (let h : 0 + n ≡ n = omega arith in h)

pub wide-turn : {X : Type 0} (f : X → ℕ) (xs : List X) (i : ℕ) (x : X) → i < length xs → x ≡ slice_index_or xs i x
    → wide (sum_by f (take (i + 1) xs)) ≡ wide (wide (sum_by f (take i xs)) + f x)
wide-turn f xs i x lt e = ap wide (sum_by_more f xs i x lt ∙ ap (λ y. sum_by f (take i xs) + f y) (sym e)) ∙ sym (wide-sum (sum_by f (take i xs)) (f x))

-- a sum so far, narrowed
pub sum-turn : {X : Type 0} (f : X → ℕ) (xs : List X) (i : ℕ) (x : X) → i < length xs → x ≡ slice_index_or xs i x
    → narrow (sum_by f (take (i + 1) xs)) ≡ narrow (narrow (sum_by f (take i xs)) + f x)
sum-turn f xs i x lt e = ap narrow (sum_by_more f xs i x lt ∙ ap (λ y. sum_by f (take i xs) + f y) (sym e)) ∙ sym (narrow-sum (sum_by f (take i xs)) (f x))

-- ---- names

places-within : (names : List (List ℕ)) (w : List ℕ) → length names ≤ greatest → with_new_names no_names 0 (take (suc greatest) (names ++ w ∷ [])) ≡ with_new (with_new_names no_names 0 (take (suc greatest) names)) w (length names)
places-within names w le =
    ap (with_new_names no_names 0) (take_all (suc greatest) (names ++ w ∷ []) (omega (arith, length-append names (w ∷ []))))
    ∙ with_new_names-push no_names 0 names w
    ∙ (ap (λ ns. with_new (with_new_names no_names 0 ns) w (0 + length names)) (sym (take_all (suc greatest) names (omega arith)))
    ∙ ap (with_new (with_new_names no_names 0 (take (suc greatest) names)) w) (omega arith))

places-push : (names : List (List ℕ)) (w : List ℕ) → first_places (names ++ w ∷ []) ≡ with_place (first_places names) w (length names)
unfolding first_places with_place
places-push names w = by (nat_le (length names) greatest) refl
  where
    by : (b : Bool) → nat_le (length names) greatest ≡ b → with_new_names no_names 0 (take (suc greatest) (names ++ w ∷ [])) ≡ cond b (with_new (with_new_names no_names 0 (take (suc greatest) names)) w (length names)) (with_new_names no_names 0 (take (suc greatest) names))
    by true e = places-within names w (leb-true (length names) greatest e)
    by false e = ap (with_new_names no_names 0) (take-append-le (suc greatest) names (w ∷ []) (let h = leb-false (length names) greatest e in omega arith))

-- a turn of the loop that gives each element's name its place
pub places-turn : {X : Type 0} (f : X → List ℕ) (xs : List X) (i : ℕ) (x : X) → i < length xs → x ≡ slice_index_or xs i x
    → first_places (map f (take (i + 1) xs)) ≡ with_place (first_places (map f (take i xs))) (f x) i
places-turn f xs i x lt e =
    ap (λ ys. first_places (map f ys)) (take-turn xs i x lt e) ∙ ap first_places (map-append f (take i xs) (x ∷ []))
    ∙ places-push (map f (take i xs)) (f x)
    ∙ ap (with_place (first_places (map f (take i xs))) (f x)) (length-map (take i xs) f ∙ length-take-le i xs (omega arith))

pub places-none : first_places [] ≡ no_names
unfolding first_places
places-none = refl

pub words_turn : (ws : List (List ℕ)) (i : ℕ) (w : List ℕ) → i < length ws → w ≡ slice_index_or ws i w
    → first_places (take (i + 1) ws) ≡ with_place (first_places (take i ws)) w i
words_turn ws i w lt e =
    ap first_places (take-turn ws i w lt e) ∙ places-push (take i ws) w ∙ ap (with_place (first_places (take i ws)) w) (length-take-le i ws (omega arith))
