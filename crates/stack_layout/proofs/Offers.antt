-- One view takes its share.
use Rattle.std.proofs.Common.{◌≡◌, ℕ, zero, suc, ℤ, ◌+◌, ◌-◌, ◌/◌, ◌<◌, cond, List, [], ◌∷◌, ◌++◌, length, take, drop, get_or, set, length-drop, refl, sym, ap, ◌∙◌, arith, subst, append_assoc, add-one}
use Rattle.std.specs.Prelude.{map, sum_by, count_by, Option, Some, All, int_lt}
use Rattle.std.specs.Ordering.{int_eq}
use Rattle.std.proofs.lemmas.Cmp.{int_eq_equiv}
use Rattle.std.proofs.lemmas.List.{map-append, take_more_set, get_or-drop, drop-set-lt, drop-drop}
use Rattle.std.proofs.lemmas.List.Sums.{sum_by-cons}
use Rattle.std.proofs.lemmas.List.Elements.{All-tail}
use Rattle.std.proofs.Math.Seq.{drop-cons, take-length}
use Rattle.align_guides.specs.declared.Size.{Size}
use Rattle.align_guides.specs.declared.Axis.{Axis}
use Rattle.stack_layout.specs.declared.Slot.{Slot}
use Rattle.stack_layout.specs.Views.{Views}
use Rattle.stack_layout.specs.Stacks.{along, offered, smallest, Turn, Taken}
use Rattle.stack_layout.specs.InTurn.{kept_back, group_size, takes}
use Rattle.stack_layout.specs.Slots.{turn_of, taken_of, kept_of, is_of_group, slot_share}

-- the group of the first view has a view
pub group_some : (d : Slot) (xs : List Slot) → 0 < length xs → 0 < count_by (is_of_group (get_or xs 0 d).priority) xs
group_some d [] h = h
group_some d (s ∷ ss) h =
    omega (arith, sum_by-cons (λ x. cond (is_of_group s.priority x) 1 0) s ss, ap (λ b. cond {A = ℕ} b 1 0) (int_eq_equiv.refl s.priority))

-- the element at i, where nothing from i on was written
pub same_at : {X : Type 0} (xs ys : List X) (i : ℕ) (d : X) → drop i ys ≡ drop i xs → get_or ys i d ≡ get_or xs i d
same_at xs ys i d e = ap (λ k. get_or ys k d) (omega arith) ∙ sym (get_or-drop i ys 0 d) ∙ ap (λ zs. get_or zs 0 d) e ∙ get_or-drop i xs 0 d ∙ ap (λ k. get_or xs k d) (omega arith)

module _ (v : Views) (axis : Axis) (c : Option ℕ) where
  abbrev pub HoldsSmallest : Slot → Type 0
  HoldsSmallest s = s.size ≡ smallest v axis c s.place

  kept_is : (q : ℤ) (xs : List Slot) → All HoldsSmallest xs → kept_back v axis c q (map turn_of xs) ≡ sum_by (kept_of axis q) xs
  kept_is q [] h = refl
  kept_is q (s ∷ ss) h =
      sum_by-cons (λ (t : Turn). cond (int_lt t.priority q) (along axis (smallest v axis c t.place)) 0) (turn_of s) (map turn_of ss)
      ∙ ap (λ n. cond (int_lt s.priority q) (along axis (smallest v axis c s.place)) 0 + n) (kept_is q ss (All-tail HoldsSmallest s ss h))
      ∙ ap (λ z. cond (int_lt s.priority q) (along axis z) 0 + sum_by (kept_of axis q) ss) (sym (h 0 s (omega arith)))
      ∙ sym (sum_by-cons (kept_of axis q) s ss)

  group_is : (q : ℤ) (xs : List Slot) → group_size v axis c q (map turn_of xs) ≡ count_by (is_of_group q) xs
  group_is q [] = refl
  group_is q (s ∷ ss) =
      sum_by-cons (λ (t : Turn). cond {A = ℕ} (int_eq t.priority q) 1 0) (turn_of s) (map turn_of ss)
      ∙ ap (λ n. cond (int_eq s.priority q) 1 0 + n) (group_is q ss)
      ∙ sym (sum_by-cons (λ x. cond (is_of_group q x) 1 0) s ss)

  share_is : (s : Slot) (ss : List Slot) (left : ℕ) → All HoldsSmallest (s ∷ ss)
      → slot_share axis (s ∷ ss) left ≡ (left - kept_back v axis c s.priority (map turn_of (s ∷ ss))) / group_size v axis c s.priority (map turn_of (s ∷ ss))
  share_is s ss left h =
      ap (λ k. (left - k) / count_by (is_of_group s.priority) (s ∷ ss)) (sym (kept_is s.priority (s ∷ ss) h))
      ∙ ap (λ k. (left - kept_back v axis c s.priority (map turn_of (s ∷ ss))) / k) (sym (group_is s.priority (s ∷ ss)))

  -- what the first view takes stands before what the rest take
  takes_first : (s : Slot) (ss : List Slot) (left : ℕ) (size : Size) → All HoldsSmallest (s ∷ ss)
      → size ≡ v.size s.place (offered axis (Some (slot_share axis (s ∷ ss) left)) c)
      → takes v axis c (map turn_of (s ∷ ss)) left ≡ record { place = s.place; size = size } ∷ takes v axis c (map turn_of ss) (left - along axis size)
  takes_first s ss left size h e =
      let own = v.size s.place (offered axis (Some ((left - kept_back v axis c s.priority (map turn_of (s ∷ ss))) / group_size v axis c s.priority (map turn_of (s ∷ ss)))) c) in
      let is : own ≡ size = sym (e ∙ ap (λ k. v.size s.place (offered axis (Some k) c)) (share_is s ss left h)) in
      ap (λ z. let t : Taken = record { place = s.place; size = z } in t ∷ takes v axis c (map turn_of ss) (left - along axis z)) is

  pub offer_more : (xs ys : List Slot) (i left room : ℕ) (d : Slot) (size : Size)
      → i < length xs → length ys ≡ length xs → drop i ys ≡ drop i xs → All HoldsSmallest (drop i xs)
      → map taken_of (take i ys) ++ takes v axis c (map turn_of (drop i xs)) left ≡ takes v axis c (map turn_of xs) room
      → size ≡ v.size (get_or ys i d).place (offered axis (Some (slot_share axis (drop i ys) left)) c)
      → map taken_of (take (i + 1) (set ys i (record (get_or ys i d) { size = size }))) ++ takes v axis c (map turn_of (drop (i + 1) xs)) (left - along axis size)
      ≡ takes v axis c (map turn_of xs) room
  offer_more xs ys i left room d size lt long rest all told e =
      let s = get_or ys i d in
      let y : Slot = record s { size = size } in
      let t : Taken = record { place = s.place; size = size } in
      let at : drop i xs ≡ s ∷ drop (i + 1) xs = drop-cons xs i d lt ∙ ap (λ z. z ∷ drop (suc i) xs) (sym (same_at xs ys i d rest)) ∙ ap (λ k. s ∷ drop k xs) (sym (add-one i)) in
      let first = takes_first s (drop (i + 1) xs) left size (subst (All HoldsSmallest) at all) (e ∙ ap (λ zs. v.size s.place (offered axis (Some (slot_share axis zs left)) c)) (rest ∙ at)) in
      let in_ys : i < length ys = omega arith in
      ap (λ zs. map taken_of zs ++ takes v axis c (map turn_of (drop (i + 1) xs)) (left - along axis size)) (take_more_set ys i y in_ys)
      ∙ ap (λ zs. zs ++ takes v axis c (map turn_of (drop (i + 1) xs)) (left - along axis size)) (map-append taken_of (take i ys) (y ∷ []))
      ∙ append_assoc (map taken_of (take i ys)) (t ∷ []) (takes v axis c (map turn_of (drop (i + 1) xs)) (left - along axis size))
      ∙ ap (λ zs. map taken_of (take i ys) ++ zs) (sym first)
      ∙ ap (λ zs. map taken_of (take i ys) ++ takes v axis c (map turn_of zs) left) (sym at)
      ∙ told

pub rest_more : {X : Type 0} (xs ys : List X) (i : ℕ) (y : X) → drop i ys ≡ drop i xs → drop (i + 1) (set ys i y) ≡ drop (i + 1) xs
rest_more xs ys i y e = drop-set-lt (i + 1) ys i y (omega arith) ∙ sym (drop-drop 1 i ys) ∙ ap (drop 1) e ∙ drop-drop 1 i xs

-- a part of a slice to its end, `&s[i..]`
pub part_is : {X : Type 0} (ys : List X) (i : ℕ) → take (length ys - i) (drop i ys) ≡ drop i ys
part_is ys i = ap (λ n. take n (drop i ys)) (sym (length-drop i ys)) ∙ take-length (drop i ys)

-- a write that leaves what f reads
pub map-set_same : {X Y : Type 0} (f : X → Y) (ys : List X) (i : ℕ) (d y : X) → i < length ys → f y ≡ f (get_or ys i d) → map f (set ys i y) ≡ map f ys
map-set_same f [] i d y h e = absurd (omega arith)
map-set_same f (x ∷ xs) zero d y h e = ap (λ z. z ∷ map f xs) e
map-set_same f (x ∷ xs) (suc i) d y h e = ap (λ zs. f x ∷ zs) (map-set_same f xs i d y (omega arith) e)
