-- From the sizes that the views took in turn to the sizes by place.
use Rattle.std.proofs.Common.{◌≡◌, ℕ, zero, suc, ℤ, ◌+◌, ◌<◌, ◌≤◌, Bool, true, false, cond, List, [], ◌∷◌, ◌++◌, length, get_or, take, drop, refl, sym, ap, ◌∙◌, arith, subst, add-zero, eq-eqb, eqb-true}
use Rattle.std.specs.Prelude.{map, sum_by, ◌==◌, Option, All}
use Rattle.std.specs.List.Sorted.{IsPermutation}
use Rattle.std.proofs.lemmas.List.{length-map, get_or-map, drop_all, take_all, append-nil}
use Rattle.std.proofs.lemmas.List.Sums.{sum_by-cons, get_or-le-sum_by}
use Rattle.std.proofs.lemmas.List.Sorted.{IsPermutation-map, All-permutation}
use Rattle.std.proofs.lemmas.List.Elements.{All-tail, All-map}
use Rattle.std.proofs.lemmas.Cmp.{nat_cmp_total}
use Rattle.std.proofs.lemmas.Bool.Decides.{nat_tests}
use Rattle.in_order.specs.InOrder.{in_order}
use Rattle.in_order.proofs.Orders.{SameBag, SameBag-from_permutation, IsLow, Rises, rises_once, in_order-rises, in_order-bag, ordered_by_cmp, cmp_apart, nat_equal}
use Rattle.align_guides.specs.declared.Size.{Size}
use Rattle.align_guides.specs.declared.Proposal.{Proposal}
use Rattle.align_guides.specs.declared.Axis.{Axis}
use Rattle.std.specs.Prelude.{pos}
use Rattle.stack_layout.specs.Stacks.{along, taken_length, Yields, all_take, groups}
use Rattle.stack_layout.proofs.Law.{groups_le}
use Rattle.stack_layout.proofs.Groups.{takes_by_groups}
use Rattle.stack_layout.proofs.Turns.{turn_total}
use Rattle.stack_layout.specs.declared.Slot.{Slot}
use Rattle.stack_layout.specs.Views.{Views}
use Rattle.stack_layout.specs.Stacks.{Turn, Taken, comes_before, waiting, taken_at, flexibility, smallest, at_places}
use Rattle.stack_layout.specs.InTurn.{takes}
use Rattle.stack_layout.specs.Slots.{InPlace, measured, turn_of, taken_of, place_of, priority_of, size_of, sized_for}
use Rattle.in_order.specs.InOrder.{is_below}

-- the places from i on
abbrev pub places_from : ℕ → List ℤ → List ℕ
places_from i [] = []
places_from i (q ∷ qs) = i ∷ places_from (i + 1) qs

at_places_is : (f : ℕ → Size) (i : ℕ) (qs : List ℤ) → at_places f i qs ≡ map f (places_from i qs)
at_places_is f i [] = refl
at_places_is f i (q ∷ qs) = ap (λ zs. f i ∷ zs) (at_places_is f (i + 1) qs)

stands_from : (i : ℕ) (xs : List Slot) → ((k : ℕ) (d : Slot) → k < length xs → (get_or xs k d).place ≡ i + k) → map place_of xs ≡ places_from i (map priority_of xs)
stands_from i [] h = refl
stands_from i (x ∷ xs) h =
    ap (λ n. n ∷ map place_of xs) (h 0 x (omega arith) ∙ add-zero i)
    ∙ ap (λ zs. i ∷ zs) (stands_from (i + 1) xs (λ k d b. let e : (get_or xs k d).place ≡ i + suc k = h (suc k) d (omega arith) in omega arith))

place_in : (i : ℕ) (qs : List ℤ) (k : ℕ) → k < length qs → get_or (places_from i qs) k 0 ≡ i + k
place_in i [] k h = absurd (omega arith)
place_in i (q ∷ qs) zero h = sym (add-zero i)
place_in i (q ∷ qs) (suc k) h = let e = place_in (i + 1) qs k (omega arith) in omega arith

map_at : (xs : List Slot) (k : ℕ) (d : Slot) → k < length xs → get_or (map place_of xs) k 0 ≡ (get_or xs k d).place
map_at xs k d h = get_or-map place_of xs k d 0 h

pub in_place : (xs : List Slot) (qs : List ℤ) → length xs ≡ length qs → map place_of xs ≡ places_from 0 qs → InPlace xs
in_place xs qs long e = record { at = λ k d b. sym (map_at xs k d b) ∙ ap (λ zs. get_or zs k 0) e ∙ place_in 0 qs k (omega arith) ∙ omega arith }

not_below : (i y : ℕ) → i ≤ y → is_below y i ≡ false
not_below i y h = grind (arith, nat_tests)

low_places : (i j : ℕ) (qs : List ℤ) → i ≤ j → IsLow is_below i (places_from j qs)
low_places i j [] h = tt
low_places i j (q ∷ qs) h = (not_below i j h, low_places i (j + 1) qs (omega arith))

rises_places : (i : ℕ) (qs : List ℤ) → Rises is_below (places_from i qs)
rises_places i [] = tt
rises_places i (q ∷ qs) = (low_places i (i + 1) qs (omega arith), rises_places (i + 1) qs)

-- how often a place occurs
abbrev occurs : ℕ → ℕ → ℕ
occurs p m = cond (m == p) 1 0

occurs_not : (p i : ℕ) → p < i → occurs p i ≡ 0
occurs_not p i h = grind (arith, nat_tests)

occurs_itself : (p : ℕ) → occurs p p ≡ 1
occurs_itself p = ap (λ b. cond {A = ℕ} b 1 0) (eq-eqb p p refl)

none_below : (p i : ℕ) (qs : List ℤ) → p < i → sum_by (occurs p) (places_from i qs) ≡ 0
none_below p i [] h = refl
none_below p i (q ∷ qs) h = sum_by-cons (occurs p) i (places_from (i + 1) qs) ∙ omega (arith, occurs_not p i h, none_below p (i + 1) qs (omega arith))

at_most_once : (b : Bool) (n : ℕ) → (b ≡ true → n ≡ 0) → n ≤ 1 → cond b 1 0 + n ≤ 1
at_most_once true n h k = omega (arith, h refl)
at_most_once false n h k = omega arith

once : (p i : ℕ) (qs : List ℤ) → sum_by (occurs p) (places_from i qs) ≤ 1
once p i [] = omega arith
once p i (q ∷ qs) =
    let step = at_most_once (i == p) (sum_by (occurs p) (places_from (i + 1) qs)) (λ e. none_below p (i + 1) qs (let same : i ≡ p = eqb-true i p e in omega arith)) (once p (i + 1) qs) in
    omega (arith, sum_by-cons (occurs p) i (places_from (i + 1) qs), step)

not_it : (b : Bool) → cond {A = ℕ} b 1 0 ≡ 0 → b ≡ false
not_it true e = absurd (omega arith)
not_it false e = refl

-- a view's size is found by its place, where each place stands once
found : (xs : List Slot) (k : ℕ) (d : Slot) → k < length xs → sum_by (occurs (get_or xs k d).place) (map place_of xs) ≤ 1
    → taken_at (map taken_of xs) (get_or xs k d).place ≡ (get_or xs k d).size
found [] k d h one = absurd (omega arith)
found (x ∷ xs) zero d h one = ap (λ b. cond b x.size (taken_at (map taken_of xs) x.place)) (eq-eqb x.place x.place refl)
found (x ∷ xs) (suc k) d h one =
    let p = (get_or xs k d).place in
    let within : k < length xs = omega arith in
    let long : k < length (map place_of xs) = omega (arith, length-map xs place_of) in
    let there : occurs p (get_or (map place_of xs) k 0) ≤ sum_by (occurs p) (map place_of xs) = get_or-le-sum_by (occurs p) (map place_of xs) k 0 long in
    let here : occurs p (get_or (map place_of xs) k 0) ≡ 1 = ap (occurs p) (map_at xs k d within) ∙ occurs_itself p in
    let other : occurs p x.place ≡ 0 = omega (arith, sum_by-cons (occurs p) x.place (map place_of xs)) in
    ap (λ b. cond b x.size (taken_at (map taken_of xs) p)) (not_it (x.place == p) other)
    ∙ found xs k d within (omega (arith, sum_by-cons (occurs p) x.place (map place_of xs)))

-- the turns that wait are those of the slots
turns_are : (v : Views) (axis : Axis) (c : Option ℕ) (i : ℕ) (xs : List Slot) → map place_of xs ≡ places_from i (map priority_of xs)
    → map turn_of (map (measured v axis c) xs) ≡ waiting v axis c i (map priority_of xs)
turns_are v axis c i [] e = refl
turns_are v axis c i (x ∷ xs) e =
    let here : x.place ≡ i = cc in
    let rest : map place_of xs ≡ places_from (i + 1) (map priority_of xs) = cc in
    ap (λ n. let t : Turn = record { priority = x.priority; flex = flexibility v axis c n; place = n } in t ∷ map turn_of (map (measured v axis c) xs)) here
    ∙ ap (λ zs. let t : Turn = record { priority = x.priority; flex = flexibility v axis c i; place = i } in t ∷ zs) (turns_are v axis c (i + 1) xs rest)

-- the views that took sizes are those that waited
takers_are : (v : Views) (axis : Axis) (c : Option ℕ) (ts : List Turn) (left : ℕ) → map (λ (t : Taken). t.place) (takes v axis c ts left) ≡ map (λ (t : Turn). t.place) ts
takers_are v axis c [] left = refl
takers_are v axis c (t ∷ ts) left = ap (λ zs. t.place ∷ zs) (takers_are v axis c ts _)

-- what the steps leave
pub record Steps (v : Views) (axis : Axis) (c : Option ℕ) (room : ℕ) (s0 s1 s2 s3 s4 : List Slot) : Type 0 where
  pub in_place : InPlace s0
  pub measures : s1 ≡ map (measured v axis c) s0
  pub turns : map turn_of s2 ≡ in_order comes_before (map turn_of s1)
  pub turned : IsPermutation s1 s2
  pub shares : map taken_of s3 ≡ takes v axis c (map turn_of s2) room
  pub places : map place_of s4 ≡ in_order is_below (map place_of s3)
  pub placed : IsPermutation s3 s4
  pub kept : map turn_of s3 ≡ map turn_of s2

map_twice : {X Y Z : Type 0} (f : Y → Z) (h : X → Y) (xs : List X) → map f (map h xs) ≡ map (λ x. f (h x)) xs
map_twice f h [] = refl
map_twice f h (x ∷ xs) = ap (λ zs. f (h x) ∷ zs) (map_twice f h xs)

map_by_all : {X Y : Type 0} (f h : X → Y) (xs : List X) → All (λ x. f x ≡ h x) xs → map f xs ≡ map h xs
map_by_all f h [] a = refl
map_by_all f h (x ∷ xs) a = ap (λ y. y ∷ map f xs) (a 0 x (omega arith)) ∙ ap (λ ys. h x ∷ ys) (map_by_all f h xs (All-tail (λ z. f z ≡ h z) x xs a))

sum_by-map : {X Y : Type 0} (f : Y → ℕ) (h : X → Y) (xs : List X) → sum_by f (map h xs) ≡ sum_by (λ x. f (h x)) xs
sum_by-map f h [] = refl
sum_by-map f h (x ∷ xs) = sum_by-cons f (h x) (map h xs) ∙ ap (λ n. f (h x) + n) (sum_by-map f h xs) ∙ sym (sum_by-cons (λ y. f (h y)) x xs)

-- f of each place from i on is a list, where f gives the elements of the list
by_place : (f : ℕ → ℤ) (i : ℕ) (ps : List ℤ) → ((k : ℕ) → k < length ps → f (i + k) ≡ get_or ps k (pos 0)) → map f (places_from i ps) ≡ ps
by_place f i [] h = refl
by_place f i (p ∷ ps) h =
    ap (λ z. z ∷ map f (places_from (i + 1) ps)) (ap f (sym (add-zero i)) ∙ h 0 (omega arith))
    ∙ ap (λ zs. p ∷ zs) (by_place f (i + 1) ps (λ k b. ap f (omega arith) ∙ h (suc k) (omega arith)))

module _ (v : Views) (axis : Axis) (c : Option ℕ) (room : ℕ) (s0 s1 s2 s3 s4 : List Slot) (steps : Steps v axis c room s0 s1 s2 s3 s4) where
  abbrev qs : List ℤ
  qs = map priority_of s0

  abbrev all_taken : List Taken
  all_taken = takes v axis c (in_order comes_before (waiting v axis c 0 qs)) room

  stood : map place_of s0 ≡ places_from 0 qs
  stood = stands_from 0 s0 (λ k d b. steps.in_place.at k d b ∙ omega arith)

  took : map taken_of s3 ≡ all_taken
  took =
      let first : map turn_of s1 ≡ waiting v axis c 0 qs = ap (map turn_of) steps.measures ∙ turns_are v axis c 0 s0 stood in
      steps.shares ∙ ap (λ ts. takes v axis c ts room) (steps.turns ∙ ap (in_order comes_before) first)

  same_places : map place_of s3 ≡ map place_of s2
  same_places =
      sym (map_twice (λ (t : Taken). t.place) taken_of s3)
      ∙ ap (map (λ (t : Taken). t.place)) steps.shares
      ∙ takers_are v axis c (map turn_of s2) room
      ∙ map_twice (λ (t : Turn). t.place) turn_of s2

  bag : SameBag (map place_of s3) (places_from 0 qs)
  bag =
      let from : map place_of s1 ≡ places_from 0 qs = ap (map place_of) steps.measures ∙ map_twice place_of (measured v axis c) s0 ∙ stood in
      let turned = SameBag-from_permutation _ _ (IsPermutation-map place_of s1 s2 steps.turned) in
      record { sums = λ f. ap (sum_by f) same_places ∙ sym (turned.sums f) ∙ ap (sum_by f) from }

  back : map place_of s4 ≡ places_from 0 qs
  back =
      let order = ordered_by_cmp nat_cmp_total in
      let ns = map place_of s3 in
      steps.places
      ∙ rises_once is_below order (λ x y p q. nat_equal x y (cmp_apart nat_cmp_total x y p q)) (in_order is_below ns) (places_from 0 qs)
      (in_order-rises is_below order ns) (rises_places 0 qs) (record { sums = λ f. (in_order-bag is_below ns).sums f ∙ bag.sums f })

  abbrev HoldsTaken : Slot → Type 0
  HoldsTaken s = s.size ≡ taken_at all_taken s.place

  holds : All HoldsTaken s3
  holds = λ k d b.
      sym (found s3 k d b (let o = once (get_or s3 k d).place 0 qs in let e = bag.sums (occurs (get_or s3 k d).place) in omega arith))
      ∙ ap (λ ts. taken_at ts (get_or s3 k d).place) took

  pub sizes_shared : map size_of s4 ≡ at_places (taken_at all_taken) 0 qs
  sizes_shared =
      map_by_all size_of (λ s. taken_at all_taken s.place) s4 (All-permutation HoldsTaken s3 s4 steps.placed holds)
      ∙ sym (map_twice (taken_at all_taken) place_of s4)
      ∙ ap (map (taken_at all_taken)) back
      ∙ sym (at_places_is (taken_at all_taken) 0 qs)

  long_places : (i : ℕ) (ps : List ℤ) → length (places_from i ps) ≡ length ps
  long_places i [] = refl
  long_places i (p ∷ ps) = ap suc (long_places (i + 1) ps)

  pub stand_in_place : InPlace s4
  stand_in_place = in_place s4 qs (sym (length-map s4 place_of) ∙ ap length back ∙ long_places 0 qs) back

  -- each slot has the priority that stood at its place
  abbrev priority_at : ℕ → ℤ
  priority_at i = get_or qs i (pos 0)

  abbrev HoldsPriority : Slot → Type 0
  HoldsPriority s = s.priority ≡ priority_at s.place

  first_priorities : All (λ s. HoldsPriority (measured v axis c s)) s0
  first_priorities = λ k d b. sym (get_or-map priority_of s0 k d (pos 0) b) ∙ ap priority_at (sym (steps.in_place.at k d b))

  turned_priorities : All HoldsPriority s2
  turned_priorities =
      All-permutation HoldsPriority s1 s2 steps.turned (subst (All HoldsPriority) (sym steps.measures) (All-map HoldsPriority (measured v axis c) s0 first_priorities))

  taken_priorities : All HoldsPriority s3
  taken_priorities = λ k d b.
      let within : k < length s2 = omega (arith, length-map s3 turn_of, length-map s2 turn_of, ap length steps.kept) in
      let same : turn_of (get_or s3 k d) ≡ turn_of (get_or s2 k d) =
      sym (get_or-map turn_of s3 k d (turn_of d) b) ∙ ap (λ zs. get_or zs k (turn_of d)) steps.kept ∙ get_or-map turn_of s2 k d (turn_of d) within in
      subst (λ (t : Turn). t.priority ≡ priority_at t.place) (sym same) (turned_priorities k d within)

  pub priorities_stay : map priority_of s4 ≡ qs
  priorities_stay =
      map_by_all priority_of (λ s. priority_at s.place) s4 (All-permutation HoldsPriority s3 s4 steps.placed taken_priorities)
      ∙ sym (map_twice priority_at place_of s4)
      ∙ ap (map priority_at) back
      ∙ by_place priority_at 0 qs (λ k b. ap priority_at (omega arith))

  -- what the views took is what all views take of the room
  pub taken_by_groups : all_taken ≡ all_take v axis c qs room
  taken_by_groups = takes_by_groups v axis c (in_order comes_before (waiting v axis c 0 qs)) room (in_order-rises comes_before (ordered_by_cmp turn_total) (waiting v axis c 0 qs))

  -- views that take no more than they are offered take no more than the room
  pub room_suffices : Yields v axis c qs room → sum_by (along axis) (map size_of s4) ≤ room
  room_suffices yields =
      let f : Slot → ℕ = λ s. along axis s.size in
      let by_turn : sum_by (along axis) (map size_of s4) ≡ sum_by (taken_length v axis c) (map taken_of s3) =
      sum_by-map (along axis) size_of s4 ∙ sym ((SameBag-from_permutation s3 s4 steps.placed).sums f) ∙ sym (sum_by-map (taken_length v axis c) taken_of s3) in
      let enough = groups_le v axis c (groups (in_order comes_before (waiting v axis c 0 qs))) room yields in
      omega (arith, by_turn, ap (sum_by (taken_length v axis c)) (took ∙ taken_by_groups), enough)

-- what the views are offered room with
module _ (v : Views) (axis : Axis) (c : Option ℕ) (s0 s1 s2 : List Slot) (measures : s1 ≡ map (measured v axis c) s0) (turned : IsPermutation s1 s2) where
  pub ready_places : InPlace s0 → length s0 ≡ v.count → All (λ (s : Slot). s.place < v.count) s2
  ready_places h long =
      let P : Slot → Type 0 = λ s. s.place < v.count in
      let each : All (λ s. P (measured v axis c s)) s0 = λ k d b. let e : (get_or s0 k d).place ≡ k = h.at k d b in omega arith in
      All-permutation P s1 s2 turned (subst (All P) (sym measures) (All-map P (measured v axis c) s0 each))

  pub ready_sizes : All (λ (s : Slot). s.size ≡ smallest v axis c s.place) s2
  ready_sizes =
      let P : Slot → Type 0 = λ s. s.size ≡ smallest v axis c s.place in
      let each : All (λ s. P (measured v axis c s)) s0 = λ k d b. refl in
      All-permutation P s1 s2 turned (subst (All P) (sym measures) (All-map P (measured v axis c) s0 each))

-- the sizes where each view is proposed the same
module _ (v : Views) (p : Proposal) (s0 s1 : List Slot) (h : InPlace s0) (asked : s1 ≡ map (sized_for v p) s0) where
  at_first : map place_of s0 ≡ places_from 0 (map priority_of s0)
  at_first = stands_from 0 s0 (λ k d b. h.at k d b ∙ omega arith)

  pub same_sizes : map size_of s1 ≡ at_places (λ i. v.size i p) 0 (map priority_of s0)
  same_sizes =
      let f : ℕ → Size = λ i. v.size i p in
      ap (map size_of) asked ∙ map_twice size_of (sized_for v p) s0 ∙ sym (map_twice f place_of s0) ∙ ap (map f) at_first ∙ sym (at_places_is f 0 (map priority_of s0))

  pub same_places_kept : InPlace s1
  same_places_kept =
      in_place s1 (map priority_of s0) (ap length asked ∙ length-map s0 (sized_for v p) ∙ sym (length-map s0 priority_of))
      (ap (map place_of) asked ∙ map_twice place_of (sized_for v p) s0 ∙ at_first)

  pub same_priorities : map priority_of s1 ≡ map priority_of s0
  same_priorities = ap (map priority_of) asked ∙ map_twice priority_of (sized_for v p) s0

-- after the last turn of a loop that writes f x over each x
pub all_written : {X : Type 0} (f : X → X) (xs ys : List X) (i : ℕ) → length xs ≤ i → ys ≡ map f (take i xs) ++ drop i xs → ys ≡ map f xs
all_written f xs ys i h e = e ∙ ap (λ zs. map f (take i xs) ++ zs) (drop_all i xs h) ∙ append-nil (map f (take i xs)) ∙ ap (map f) (take_all i xs h)
