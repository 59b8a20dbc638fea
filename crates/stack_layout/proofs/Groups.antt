-- Offering one view after another is offering group after group.
use Rattle.std.proofs.Common.{◌≡◌, ℕ, ℤ, ◌+◌, ◌-◌, ◌/◌, Bool, true, false, cond, List, [], ◌∷◌, ◌++◌, length, refl, sym, ap, ◌∙◌, arith, subst}
use Rattle.std.specs.Prelude.{sum_by, Option, Some, int_lt, ◌<ℤ◌}
use Rattle.std.specs.declared.cmp.Ordering.{Ordering}
use Rattle.std.specs.declared.cmp.Ordering.TheVariants.{Less, Equal, Greater}
use Rattle.std.specs.Ordering.{int_eq, int_cmp, nat_cmp, is_eq, is_lt, ordering_then, MatchOrdering}
use Rattle.std.proofs.lemmas.Cmp.{int_ranked, int_eq_equiv}
use Rattle.std.proofs.lemmas.Int.{ints}
use Rattle.std.proofs.lemmas.List.Sums.{sum_by-cons, sum_by-append}
use Rattle.in_order.proofs.Orders.{IsLow, Rises, int_equal}
use Rattle.align_guides.specs.declared.Axis.{Axis}
use Rattle.align_guides.specs.declared.Size.{Size}
use Rattle.stack_layout.specs.Views.{Views}
use Rattle.stack_layout.specs.Stacks.{along, offered, smallest, smallest_length, smallest_lengths, taken_length, group_takes, groups_take, groups, joined, comes_before, Turn, Taken}
use Rattle.stack_layout.specs.InTurn.{kept_back, group_size, takes}

-- priorities
is_equal : (r : Ordering) → is_eq r ≡ true → r ≡ Equal
is_equal Less h = cc
is_equal Equal h = refl
is_equal Greater h = cc

eq_of : (a b : ℤ) → int_eq a b ≡ true → a ≡ b
eq_of a b h = int_equal a b (is_equal (int_cmp a b) h)

lt_not_self : (a : ℤ) → int_lt a a ≡ false
lt_not_self a = grind (arith, ints)

lt_trans : (a b c : ℤ) → int_lt a b ≡ true → int_lt b c ≡ true → int_lt a c ≡ true
lt_trans a b c h k = grind (arith, ints)

lt_not_eq : (a b : ℤ) → int_lt a b ≡ true → int_eq a b ≡ false
lt_not_eq a b h = case (int_eq a b) refl
  where
    case : (x : Bool) → int_eq a b ≡ x → int_eq a b ≡ false
    case true e = let same : int_lt a b ≡ int_lt b b = ap (λ z. int_lt z b) (eq_of a b e) in let never = lt_not_self b in cc
    case false e = e

above : (a b : ℤ) → a <ℤ b → int_lt a b ≡ true
above a b h = grind (arith, ints)

after_lower : (u t : Turn) → comes_before u t ≡ false → int_eq t.priority u.priority ≡ false → int_lt u.priority t.priority ≡ true
after_lower u t h k = case (int_cmp t.priority u.priority) (int_ranked t.priority u.priority (int_cmp t.priority u.priority) refl) h k
  where
    case : (r : Ordering) → MatchOrdering r (t.priority <ℤ u.priority) (t.priority ≡ u.priority) (u.priority <ℤ t.priority)
        → is_lt (ordering_then (ordering_then r (nat_cmp u.flex t.flex)) (nat_cmp u.place t.place)) ≡ false → is_eq r ≡ false → int_lt u.priority t.priority ≡ true
    case Less m h k = cc
    case Equal m h k = cc
    case Greater m h k = above u.priority t.priority m

-- all of one priority, and all below it
abbrev pub OfGroup : ℤ → List Turn → Type 0
OfGroup q [] = Unit {0}
OfGroup q (t ∷ ts) = (t.priority ≡ q) × OfGroup q ts

abbrev pub Below : ℤ → List Turn → Type 0
Below q [] = Unit {0}
Below q (t ∷ ts) = (int_lt t.priority q ≡ true) × Below q ts

Below-append : (q : ℤ) (xs ys : List Turn) → Below q xs → Below q ys → Below q (xs ++ ys)
Below-append q [] ys g h = h
Below-append q (x ∷ xs) ys g h = (g.0, Below-append q xs ys g.1 h)

Below-trans : (q r : ℤ) (ts : List Turn) → int_lt r q ≡ true → Below r ts → Below q ts
Below-trans q r [] h b = tt
Below-trans q r (t ∷ ts) h b = (lt_trans t.priority r q b.0 h, Below-trans q r ts h b.1)

Below-group : (q r : ℤ) (ts : List Turn) → int_lt r q ≡ true → OfGroup r ts → Below q ts
Below-group q r [] h b = tt
Below-group q r (t ∷ ts) h b = (ap (λ z. int_lt z q) b.0 ∙ h, Below-group q r ts h b.1)

-- the views of some groups
abbrev pub rows : List (List Turn) → List Turn
rows [] = []
rows (g ∷ gs) = g ++ rows gs

-- each group has views of one priority, and those after it are lower
abbrev pub Falls : List (List Turn) → Type 0
Falls [] = Unit {0}
Falls ([] ∷ gs) = ⊥
Falls ((u ∷ us) ∷ gs) = OfGroup u.priority us × Below u.priority (rows gs) × Falls gs

abbrev NotAfter : Turn → List (List Turn) → Type 0
NotAfter t [] = Unit {0}
NotAfter t ([] ∷ gs) = Unit {0}
NotAfter t ((u ∷ us) ∷ gs) = comes_before u t ≡ false

joined_falls : (t : Turn) (gs : List (List Turn)) → Falls gs → NotAfter t gs → Falls (joined t gs)
joined_falls t [] f n = (tt, tt, tt)
joined_falls t ([] ∷ gs) f n = absurd f
joined_falls t ((u ∷ us) ∷ gs) f n = case (int_eq t.priority u.priority) refl
  where
    case : (b : Bool) → int_eq t.priority u.priority ≡ b → Falls (cond b ((t ∷ u ∷ us) ∷ gs) ((t ∷ []) ∷ (u ∷ us) ∷ gs))
    case true e =
        let same : u.priority ≡ t.priority = sym (eq_of t.priority u.priority e) in
        ((same, subst (λ (q : ℤ). OfGroup q us) same f.0), subst (λ (q : ℤ). Below q (rows gs)) same f.1, f.2)
    case false e =
        let lower : int_lt u.priority t.priority ≡ true = after_lower u t n e in
        (tt, (lower, Below-append t.priority us (rows gs) (Below-group t.priority u.priority us lower f.0) (Below-trans t.priority u.priority (rows gs) lower f.1)), f)

joined_rows : (t : Turn) (gs : List (List Turn)) → Falls gs → rows (joined t gs) ≡ t ∷ rows gs
joined_rows t [] f = refl
joined_rows t ([] ∷ gs) f = absurd f
joined_rows t ((u ∷ us) ∷ gs) f =
    elim (int_eq t.priority u.priority) as (λ b. rows (cond b ((t ∷ u ∷ us) ∷ gs) ((t ∷ []) ∷ (u ∷ us) ∷ gs)) ≡ t ∷ rows ((u ∷ us) ∷ gs)) [ true ↦ refl | false ↦ refl ]

not_after : (t : Turn) (gs : List (List Turn)) → Falls gs → IsLow comes_before t (rows gs) → NotAfter t gs
not_after t [] f low = tt
not_after t ([] ∷ gs) f low = tt
not_after t ((u ∷ us) ∷ gs) f low = low.0

pub groups_fall : (ts : List Turn) → Rises comes_before ts → Falls (groups ts) × (rows (groups ts) ≡ ts)
groups_fall [] r = (tt, refl)
groups_fall (t ∷ ts) r =
    let rest = groups_fall ts r.1 in
    let low : IsLow comes_before t (rows (groups ts)) = subst (IsLow comes_before t) (sym rest.1) r.0 in
    (joined_falls t (groups ts) rest.0 (not_after t (groups ts) rest.0 low), joined_rows t (groups ts) rest.0 ∙ ap (λ zs. t ∷ zs) rest.1)

module _ (v : Views) (axis : Axis) (c : Option ℕ) where
  abbrev kept_length : ℤ → Turn → ℕ
  kept_length q t = cond (int_lt t.priority q) (along axis (smallest v axis c t.place)) 0

  kept_below : (q : ℤ) (ts : List Turn) → Below q ts → kept_back v axis c q ts ≡ sum_by (smallest_length v axis c) ts
  kept_below q [] b = refl
  kept_below q (t ∷ ts) b =
      sum_by-cons (kept_length q) t ts
      ∙ ap (λ x. cond x (along axis (smallest v axis c t.place)) 0 + kept_back v axis c q ts) b.0
      ∙ ap (λ n. along axis (smallest v axis c t.place) + n) (kept_below q ts b.1)
      ∙ sym (sum_by-cons (smallest_length v axis c) t ts)

  kept_group : (q : ℤ) (g ts : List Turn) → OfGroup q g → Below q ts → kept_back v axis c q (g ++ ts) ≡ sum_by (smallest_length v axis c) ts
  kept_group q [] ts o b = kept_below q ts b
  kept_group q (t ∷ g) ts o b =
      sum_by-cons (kept_length q) t (g ++ ts)
      ∙ ap (λ x. cond x (along axis (smallest v axis c t.place)) 0 + kept_back v axis c q (g ++ ts)) (ap (λ z. int_lt z q) o.0 ∙ lt_not_self q)
      ∙ omega (arith, kept_group q g ts o.1 b)

  none_of_group : (q : ℤ) (ts : List Turn) → Below q ts → group_size v axis c q ts ≡ 0
  none_of_group q [] b = refl
  none_of_group q (t ∷ ts) b =
      sum_by-cons (λ (u : Turn). cond {A = ℕ} (int_eq u.priority q) 1 0) t ts
      ∙ ap (λ x. cond x 1 0 + group_size v axis c q ts) (lt_not_eq t.priority q b.0)
      ∙ omega (arith, none_of_group q ts b.1)

  size_of_group : (q : ℤ) (g ts : List Turn) → OfGroup q g → Below q ts → group_size v axis c q (g ++ ts) ≡ length g
  size_of_group q [] ts o b = none_of_group q ts b
  size_of_group q (t ∷ g) ts o b =
      sum_by-cons (λ (u : Turn). cond {A = ℕ} (int_eq u.priority q) 1 0) t (g ++ ts)
      ∙ ap (λ x. cond x 1 0 + group_size v axis c q (g ++ ts)) (ap (λ z. int_eq z q) o.0 ∙ int_eq_equiv.refl q)
      ∙ omega (arith, size_of_group q g ts o.1 b)

  -- a group takes its sizes, and the views after it what is left
  one_group : (q : ℤ) (g ts : List Turn) (left kept : ℕ) → OfGroup q g → Below q ts → kept ≡ sum_by (smallest_length v axis c) ts
      → takes v axis c (g ++ ts) left ≡ group_takes v axis c g (left - kept) ++ takes v axis c ts (left - sum_by (taken_length v axis c) (group_takes v axis c g (left - kept)))
  one_group q [] ts left kept o b k = ap (takes v axis c ts) (omega arith)
  one_group q (t ∷ g) ts left kept o b k =
      let all = t ∷ (g ++ ts) in
      let size : ℕ → Size = λ n. v.size t.place (offered axis (Some n) c) in
      let share = (left - kept_back v axis c t.priority all) / group_size v axis c t.priority all in
      let kept_is : kept_back v axis c t.priority all ≡ kept = ap (λ z. kept_back v axis c z all) o.0 ∙ kept_group q (t ∷ g) ts o b ∙ sym k in
      let many : group_size v axis c t.priority all ≡ length (t ∷ g) = ap (λ z. group_size v axis c z all) o.0 ∙ size_of_group q (t ∷ g) ts o b in
      let share_is : share ≡ (left - kept) / length (t ∷ g) = ap (λ n. (left - n) / group_size v axis c t.priority all) kept_is ∙ ap (λ n. (left - kept) / n) many in
      let x : Taken = record { place = t.place; size = size ((left - kept) / length (t ∷ g)) } in
      let a = along axis x.size in
      let after = group_takes v axis c g (left - kept - a) in
      let swap : left - a - kept ≡ left - kept - a = omega arith in
      let last : left - a - sum_by (taken_length v axis c) after ≡ left - sum_by (taken_length v axis c) (x ∷ after) = omega (arith, sum_by-cons (taken_length v axis c) x after) in
      ap (λ n. let y : Taken = record { place = t.place; size = size n } in y ∷ takes v axis c (g ++ ts) (left - along axis (size n))) share_is
      ∙ ap (λ zs. x ∷ zs) (one_group q g ts (left - a) kept o.1 b k)
      ∙ ap (λ n. x ∷ (group_takes v axis c g n ++ takes v axis c ts (left - a - sum_by (taken_length v axis c) (group_takes v axis c g n)))) swap
      ∙ ap (λ n. x ∷ (after ++ takes v axis c ts n)) last

  smallest_rows : (gs : List (List Turn)) → smallest_lengths v axis c gs ≡ sum_by (smallest_length v axis c) (rows gs)
  smallest_rows [] = refl
  smallest_rows (g ∷ gs) = ap (λ n. sum_by (smallest_length v axis c) g + n) (smallest_rows gs) ∙ sym (sum_by-append (smallest_length v axis c) g (rows gs))

  takes_groups : (gs : List (List Turn)) (room : ℕ) → Falls gs → takes v axis c (rows gs) room ≡ groups_take v axis c gs room
  takes_groups [] room f = refl
  takes_groups ([] ∷ gs) room f = absurd f
  takes_groups ((u ∷ us) ∷ gs) room f =
      one_group u.priority (u ∷ us) (rows gs) room (smallest_lengths v axis c gs) (refl, f.0) f.1 (smallest_rows gs)
      ∙ ap (λ zs. group_takes v axis c (u ∷ us) (room - smallest_lengths v axis c gs) ++ zs) (takes_groups gs _ f.2)

  -- offering in turn is offering by groups, where the views stand in the order of the offers
  pub takes_by_groups : (ts : List Turn) (room : ℕ) → Rises comes_before ts → takes v axis c ts room ≡ groups_take v axis c (groups ts) room
  takes_by_groups ts room r =
      let g = groups_fall ts r in
      ap (λ zs. takes v axis c zs room) (sym g.1) ∙ takes_groups (groups ts) room g.0
