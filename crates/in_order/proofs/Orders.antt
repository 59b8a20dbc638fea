-- A sorted permutation of a list is the list put in order by insertion, where the order tells any two elements apart.
use Rattle.std.proofs.Common.{◌≡◌, ℕ, suc, ◌+◌, ◌<◌, ◌≤◌, Bool, true, false, cond, List, [], ◌∷◌, length, get_or, refl, sym, ap, ◌∙◌, arith, subst}
use Rattle.std.specs.Prelude.{sum_by, map}
use Rattle.std.specs.Prelude.{ℤ, ◌<ℤ◌}
use Rattle.std.specs.declared.cmp.Ordering.{Ordering}
use Rattle.std.specs.declared.cmp.Ordering.TheVariants.{Less, Equal, Greater}
use Rattle.std.specs.Ordering.{ordering_then, ordering_reverse, is_lt, nat_cmp, int_cmp, MatchOrdering}
use Rattle.std.specs.Cmp.{IsStrictWeakOrder, IsTotalOrder}
use Rattle.std.proofs.lemmas.Cmp.{ranked, int_ranked, nat_cmp_total}
use Rattle.std.specs.List.Sorted.{IsPermutation, IsSortedBy}
use Rattle.std.proofs.lemmas.List.Sums.{sum_by-cons}
use Rattle.std.proofs.lemmas.List.Sorted.{sorted_far, sum_by-IsPermutation, ranks_by}
use Rattle.in_order.specs.InOrder.{placed, in_order, is_below}

-- the same elements, each as often
pub record SameBag {X : Type 0} (xs ys : List X) : Type 0 where
  pub sums : (f : X → ℕ) → sum_by f xs ≡ sum_by f ys

pub SameBag-from_permutation : {X : Type 0} (xs ys : List X) → IsPermutation xs ys → SameBag xs ys
SameBag-from_permutation xs ys h = record { sums = λ f. sym (sum_by-IsPermutation f xs ys h) }

module _ {X : Type 0} (lt : X → X → Bool) where
  -- no element is less than x
  abbrev pub IsLow : X → List X → Type 0
  IsLow x [] = Unit {0}
  IsLow x (y ∷ ys) = (lt y x ≡ false) × IsLow x ys

  abbrev pub Rises : List X → Type 0
  Rises [] = Unit {0}
  Rises (x ∷ xs) = IsLow x xs × Rises xs

  -- how many elements are less than x
  abbrev precedes : X → X → ℕ
  precedes x y = cond (lt y x) 1 0

  low_sum : (x : X) (xs : List X) → IsLow x xs → sum_by (precedes x) xs ≡ 0
  low_sum x [] h = refl
  low_sum x (y ∷ ys) h = sum_by-cons (precedes x) y ys ∙ omega (arith, ap (λ b. cond {A = ℕ} b 1 0) h.0, low_sum x ys h.1)

  not_below : (b : Bool) (n : ℕ) → cond b 1 0 + n ≡ 0 → b ≡ false
  not_below true n k = absurd (omega arith)
  not_below false n k = refl

  low_head : (x y : X) (ys : List X) → sum_by (precedes x) (y ∷ ys) ≡ 0 → lt y x ≡ false
  low_head x y ys h = not_below (lt y x) (sum_by (precedes x) ys) (sym (sum_by-cons (precedes x) y ys) ∙ h)

  -- the first of a list that rises is no more than any of it
  low_self : IsStrictWeakOrder lt → (x : X) (xs : List X) → IsLow x xs → sum_by (precedes x) (x ∷ xs) ≡ 0
  low_self o x xs h = low_sum x (x ∷ xs) (itself (lt x x) refl, h)
    where
      itself : (b : Bool) → lt x x ≡ b → lt x x ≡ false
      itself true e = o.one_way x x e
      itself false e = e

  -- two lists that rise and have the same elements are one
  pub rises_once : IsStrictWeakOrder lt → ((x y : X) → lt x y ≡ false → lt y x ≡ false → x ≡ y)
      → (xs ys : List X) → Rises xs → Rises ys → SameBag xs ys → xs ≡ ys
  rises_once o apart [] [] g h s = refl
  rises_once o apart [] (y ∷ ys) g h s = absurd (omega (arith, s.sums (λ _. 1), sum_by-cons (λ _. 1) y ys))
  rises_once o apart (x ∷ xs) [] g h s = absurd (omega (arith, s.sums (λ _. 1), sum_by-cons (λ _. 1) x xs))
  rises_once o apart (x ∷ xs) (y ∷ ys) g h s =
      let below_y : lt x y ≡ false = low_head y x xs (s.sums (precedes y) ∙ low_self o y ys h.0) in
      let below_x : lt y x ≡ false = low_head x y ys (sym (s.sums (precedes x)) ∙ low_self o x xs g.0) in
      let same : x ≡ y = apart x y below_y below_x in
      let rest : SameBag xs ys = record { sums = λ f. left (f x) (f y) _ _ (ap f same) (sym (sum_by-cons f x xs) ∙ s.sums f ∙ sum_by-cons f y ys) } in
      ap (λ z. z ∷ xs) same ∙ ap (λ zs. y ∷ zs) (rises_once o apart xs ys g.1 h.1 rest)
    where
      left : (a b m n : ℕ) → a ≡ b → a + m ≡ b + n → m ≡ n
      left a b m n e k = omega arith

  -- insertion keeps the elements, and gives a list that rises
  sum-placed : (f : X → ℕ) (x : X) (ys : List X) → sum_by f (placed lt x ys) ≡ f x + sum_by f ys
  sum-placed f x [] = sum_by-cons f x []
  sum-placed f x (y ∷ ys) = case (lt y x) (sum-placed f x ys)
    where
      case : (b : Bool) → sum_by f (placed lt x ys) ≡ f x + sum_by f ys → sum_by f (cond b (y ∷ placed lt x ys) (x ∷ y ∷ ys)) ≡ f x + sum_by f (y ∷ ys)
      case true e = omega (arith, sum_by-cons f y (placed lt x ys), sum_by-cons f y ys)
      case false e = sum_by-cons f x (y ∷ ys)

  pub in_order-bag : (xs : List X) → SameBag (in_order lt xs) xs
  in_order-bag xs = record { sums = λ f. total f xs }
    where
      total : (f : X → ℕ) (xs : List X) → sum_by f (in_order lt xs) ≡ sum_by f xs
      total f [] = refl
      total f (x ∷ xs) = sum-placed f x (in_order lt xs) ∙ ap (λ n. f x + n) (total f xs) ∙ sym (sum_by-cons f x xs)

  low-trans : IsStrictWeakOrder lt → (x y : X) (zs : List X) → lt y x ≡ false → IsLow y zs → IsLow x zs
  low-trans o x y [] e h = tt
  low-trans o x y (z ∷ zs) e h = (o.chain z y x h.0 e, low-trans o x y zs e h.1)

  low-placed : (y x : X) (zs : List X) → lt x y ≡ false → IsLow y zs → IsLow y (placed lt x zs)
  low-placed y x [] e h = (e, tt)
  low-placed y x (z ∷ zs) e h =
      elim (lt z x) as (λ b. IsLow y (cond b (z ∷ placed lt x zs) (x ∷ z ∷ zs))) [ true ↦ (h.0, low-placed y x zs e h.1) | false ↦ (e, h) ]

  rises-placed : IsStrictWeakOrder lt → (x : X) (ys : List X) → Rises ys → Rises (placed lt x ys)
  rises-placed o x [] h = (tt, tt)
  rises-placed o x (y ∷ ys) h = case (lt y x) refl (rises-placed o x ys h.1)
    where
      case : (b : Bool) → lt y x ≡ b → Rises (placed lt x ys) → Rises (cond b (y ∷ placed lt x ys) (x ∷ y ∷ ys))
      case true e r = (low-placed y x ys (o.one_way y x e) h.0, r)
      case false e r = ((e, low-trans o x y ys e h.0), h)

  pub in_order-rises : IsStrictWeakOrder lt → (xs : List X) → Rises (in_order lt xs)
  in_order-rises o [] = tt
  in_order-rises o (x ∷ xs) = rises-placed o x (in_order lt xs) (in_order-rises o xs)

  -- what a sort ensures, by recursion
  low-by_index : (x : X) (xs : List X) → ((k : ℕ) (d : X) → k < length xs → lt (get_or xs k d) x ≡ false) → IsLow x xs
  low-by_index x [] h = tt
  low-by_index x (y ∷ ys) h = (h 0 y (omega arith), low-by_index x ys (λ k d b. h (suc k) d (omega arith)))

  rises-by_index : (xs : List X) → ((i j : ℕ) (d : X) → i ≤ j → j < length xs → lt (get_or xs j d) (get_or xs i d) ≡ false) → Rises xs
  rises-by_index [] h = tt
  rises-by_index (x ∷ xs) h = (low-by_index x xs (λ k d b. h 0 (suc k) d (omega arith) (omega arith)), rises-by_index xs (λ i j d a b. h (suc i) (suc j) d (omega arith) (omega arith)))

  pub rises-from_sorted : IsStrictWeakOrder lt → (xs : List X) → IsSortedBy lt xs → Rises xs
  rises-from_sorted o xs h = rises-by_index xs (sorted_far lt o xs h)

  -- a list with the elements of another, sorted, is the other in order
  pub sorted_is_in_order : IsStrictWeakOrder lt → ((x y : X) → lt x y ≡ false → lt y x ≡ false → x ≡ y)
      → (xs ys : List X) → SameBag xs ys → IsSortedBy lt ys → ys ≡ in_order lt xs
  sorted_is_in_order o apart xs ys s h =
      rises_once o apart ys (in_order lt xs) (rises-from_sorted o ys h) (in_order-rises o xs)
      (record { sums = λ f. sym (s.sums f) ∙ sym ((in_order-bag xs).sums f) })

-- the same where a sort went by f of each element
pub sorted_by_is_in_order : {X Y : Type 0} (lt : X → X → Bool) → IsStrictWeakOrder lt → ((x y : X) → lt x y ≡ false → lt y x ≡ false → x ≡ y)
    → (f : Y → X) (xs : List X) (ys : List Y) → SameBag xs (map f ys) → IsSortedBy (λ a b. lt (f a) (f b)) ys → map f ys ≡ in_order lt xs
sorted_by_is_in_order {X} {Y} lt o apart f xs ys s h =
    rises_once lt o apart (map f ys) (in_order lt xs) (rises-map ys (rises-from_sorted (λ a b. lt (f a) (f b)) of_f ys h)) (in_order-rises lt o xs)
    (record { sums = λ g. sym (s.sums g) ∙ sym ((in_order-bag lt xs).sums g) })
  where
    of_f : IsStrictWeakOrder (λ a b. lt (f a) (f b))
    of_f = record { one_way = λ a b. o.one_way (f a) (f b); chain = λ a b c. o.chain (f a) (f b) (f c) }

    low-map : (y : Y) (zs : List Y) → IsLow (λ a b. lt (f a) (f b)) y zs → IsLow lt (f y) (map f zs)
    low-map y [] k = tt
    low-map y (z ∷ zs) k = (k.0, low-map y zs k.1)

    rises-map : (zs : List Y) → Rises (λ a b. lt (f a) (f b)) zs → Rises lt (map f zs)
    rises-map [] k = tt
    rises-map (z ∷ zs) k = (low-map z zs k.0, rises-map zs k.1)

-- two elements that an order by `cmp` does not tell apart
pub cmp_apart : {X : Type 0} {R : X → X → Ordering} → IsTotalOrder R → (x y : X) → is_lt (R x y) ≡ false → is_lt (R y x) ≡ false → R x y ≡ Equal
cmp_apart {R = R} o x y p q = case (R x y) (R y x) (o.antisymm x y) p q
  where
    case : (a b : Ordering) → a ≡ ordering_reverse b → is_lt a ≡ false → is_lt b ≡ false → a ≡ Equal
    case Less b e p q = cc
    case Equal b e p q = refl
    case Greater Less e p q = cc
    case Greater Equal e p q = cc
    case Greater Greater e p q = cc

pub both_equal : (a b : Ordering) → ordering_then a b ≡ Equal → (a ≡ Equal) × (b ≡ Equal)
both_equal Less b e = cc
both_equal Equal b e = (refl, e)
both_equal Greater b e = cc

pub nat_equal : (x y : ℕ) → nat_cmp x y ≡ Equal → x ≡ y
nat_equal x y e = subst (λ r. MatchOrdering r (x < y) (x ≡ y) (y < x)) e (ranked x y (nat_cmp x y) refl)

pub int_equal : (x y : ℤ) → int_cmp x y ≡ Equal → x ≡ y
int_equal x y e = subst (λ r. MatchOrdering r (x <ℤ y) (x ≡ y) (y <ℤ x)) e (int_ranked x y (int_cmp x y) refl)

pub ordered_by_cmp : {X : Type 0} {R : X → X → Ordering} → IsTotalOrder R → IsStrictWeakOrder (λ x y. is_lt (R x y))
ordered_by_cmp o = ranks_by o (λ x. x)

-- two numbers of which neither is less are one
pub numbers_apart : (x y : ℕ) → is_below x y ≡ false → is_below y x ≡ false → x ≡ y
numbers_apart x y p q = nat_equal x y (cmp_apart nat_cmp_total x y p q)
