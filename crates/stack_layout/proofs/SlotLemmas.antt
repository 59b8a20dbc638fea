-- A loop that writes f x over each element x.
use Rattle.std.proofs.Common.{◌≡◌, ℕ, ◌+◌, ◌-◌, ◌<◌, ◌≤◌, List, [], ◌∷◌, ◌++◌, length, take, drop, get_or, set, zero, suc, subst, sym, ap, ◌∙◌, arith}
use Rattle.std.specs.Prelude.{map, All}
use Rattle.std.proofs.lemmas.List.Elements.{All-append}
use Rattle.std.proofs.lemmas.List.{length-map, take_all, take_more_set, length-take-le, get_or-append_right, get_or-drop, get_or_default}
use Rattle.std.proofs.lemmas.List.Edits.{map_over_more}
use Rattle.std.specs.Prelude.{Option}
use Rattle.align_guides.specs.declared.Size.{Size}
use Rattle.align_guides.specs.declared.Axis.{Axis}
use Rattle.stack_layout.specs.declared.Slot.{Slot}
use Rattle.stack_layout.specs.Views.{Views}
use Rattle.stack_layout.specs.Stacks.{along, smallest, largest, flexibility}
use Rattle.stack_layout.specs.Slots.{measured}

module _ {X : Type 0} (f : X → X) where
  -- the element at i is not written yet
  pub not_yet : (xs ys : List X) (i : ℕ) (d : X) → i < length xs → ys ≡ map f (take i xs) ++ drop i xs → get_or ys i d ≡ get_or xs i d
  not_yet xs ys i d lt e =
      let long : length (map f (take i xs)) ≡ i = length-map (take i xs) f ∙ length-take-le i xs (omega arith) in
      ap (λ zs. get_or zs i d) e
      ∙ get_or-append_right (map f (take i xs)) (drop i xs) i i d long (omega arith)
      ∙ get_or-drop i xs (i - i) d
      ∙ ap (λ k. get_or xs k d) (omega arith)

  pub written_more : (xs ys : List X) (i : ℕ) (d y : X) → i < length xs → ys ≡ map f (take i xs) ++ drop i xs → y ≡ f (get_or xs i d)
      → set ys i y ≡ map f (take (i + 1) xs) ++ drop (i + 1) xs
  written_more xs ys i d y lt e same =
      ap (set ys i) same
      ∙ map_over_more f xs ys i (get_or xs i d) lt e (get_or_default xs i d (get_or xs i d) lt ∙ sym (not_yet xs ys i (get_or xs i d) lt e))

pub measured_is : (v : Views) (axis : Axis) (c : Option ℕ) (x y : Slot) (i flex a b : ℕ) (small large : Size)
    → y ≡ x → x.place ≡ i → small ≡ smallest v axis c i → large ≡ largest v axis c i → a ≡ along axis large → b ≡ along axis small → flex ≡ a - b
    → record y { flex = flex; size = small } ≡ measured v axis c x
measured_is v axis c x y i flex a b small large same place at_least at_most long short far =
    let size : small ≡ smallest v axis c x.place = at_least ∙ ap (smallest v axis c) (sym place) in
    let most : large ≡ largest v axis c x.place = at_most ∙ ap (largest v axis c) (sym place) in
    let flexible : flex ≡ flexibility v axis c x.place = far ∙ ap (λ m. m - b) (long ∙ ap (along axis) most) ∙ ap (λ m. along axis (largest v axis c x.place) - m) (short ∙ ap (along axis) size) in
    ap (λ (z : Slot). record z { flex = flex; size = small }) same ∙ ap (λ n. record x { flex = n; size = small }) flexible ∙ ap (λ s. record x { flex = flexibility v axis c x.place; size = s }) size

-- one more element of which P holds was written
pub all_more : {X : Type 0} (P : X → Type 0) (ys : List X) (i : ℕ) (y : X) → i < length ys → P y → All P (take i ys) → All P (take (i + 1) (set ys i y))
all_more {X} P ys i y lt h a = subst (All P) (sym (take_more_set ys i y lt)) (All-append P (take i ys) (y ∷ []) a one)
  where
    one : (k : ℕ) (d : X) → k < 1 → P (get_or (y ∷ []) k d)
    one zero d b = h
    one (suc k) d b = absurd (omega arith)

-- all were written
pub all_of_all : {X : Type 0} (P : X → Type 0) (ys : List X) (i : ℕ) → length ys ≤ i → All P (take i ys) → All P ys
all_of_all P ys i h a = subst (All P) (take_all i ys h) a
