-- One more edge of the views across.
use Rattle.std.proofs.Common.{◌≡◌, ℕ, ℤ, pos, ◌-ℤ◌, ◌+◌, ◌<◌, List, ◌∷◌, length, drop, get_or, sym, ap, ◌∙◌, neg_ℤ, add-one, negsuc, ◌≤ℤ◌, ◌≤◌, to_z, of_z, w64, arith}
use Rattle.std.proofs.lemmas.Int.{ints, clamps}
use Rattle.std.specs.Prelude.{map, fold}
use Rattle.std.specs.Int.{int_min, int_max}
use Rattle.std.proofs.Math.Seq.{drop-cons}
use Rattle.align_guides.specs.declared.Axis.{Axis}
use Rattle.align_guides.specs.declared.Axis.TheVariants.{H, V, Z}
use Rattle.align_guides.specs.declared.Size.{Size}
use Rattle.align_guides.specs.Lengths.{IsSize, length_of}
use Rattle.stack_layout.specs.declared.Slot.{Slot}
use Rattle.stack_layout.specs.Views.{Views}
use Rattle.stack_layout.specs.Stacks.{along, tops, bottoms}
use Rattle.stack_layout.specs.Slots.{size_of}

rest_of : (xs : List Slot) (i : ℕ) (d : Slot) → i < length xs → drop i xs ≡ get_or xs i d ∷ drop (i + 1) xs
rest_of xs i d lt = drop-cons xs i d lt ∙ ap (λ k. get_or xs i d ∷ drop k xs) (sym (add-one i))

module _ (v : Views) (cross : Axis) (xs : List Slot) (i : ℕ) (d : Slot) (lt : i < length xs) where
  pub tops_more : (top top' total : ℤ) → top' ≡ int_min top (neg_ℤ (v.guide i cross (get_or xs i d).size)) → fold int_min top (tops v cross i (map size_of (drop i xs))) ≡ total
      → fold int_min top' (tops v cross (i + 1) (map size_of (drop (i + 1) xs))) ≡ total
  tops_more top top' total e told = ap (λ z. fold int_min z (tops v cross (i + 1) (map size_of (drop (i + 1) xs)))) e ∙ sym (ap (λ zs. fold int_min top (tops v cross i (map size_of zs))) (rest_of xs i d lt)) ∙ told

  pub bottoms_more : (top top' total : ℤ) → top' ≡ int_max top (pos (along cross (get_or xs i d).size) -ℤ v.guide i cross (get_or xs i d).size) → fold int_max top (bottoms v cross i (map size_of (drop i xs))) ≡ total
      → fold int_max top' (bottoms v cross (i + 1) (map size_of (drop (i + 1) xs))) ≡ total
  bottoms_more top top' total e told = ap (λ z. fold int_max z (bottoms v cross (i + 1) (map size_of (drop (i + 1) xs)))) e ∙ sym (ap (λ zs. fold int_max top (bottoms v cross i (map size_of zs))) (rest_of xs i d lt)) ∙ told

pub signed_top : (T R G U : ℤ) → G ≡ U → negsuc 999999 ≤ℤ G → G ≤ℤ pos 1000000 → negsuc 999999 ≤ℤ T → T ≤ℤ pos 1000000
    → R ≡ int_min T (to_z w64 (of_z w64 (pos 0 -ℤ to_z w64 (of_z w64 G)))) → to_z w64 (of_z w64 R) ≡ int_min T (neg_ℤ U)
signed_top T R G U e low high tlow thigh r = omega (arith, ints, clamps)

pub signed_bottom : (T R G U F : ℤ) (n m : ℕ) → G ≡ U → F ≡ pos n → n ≡ m → n ≤ 1000000 → negsuc 999999 ≤ℤ G → G ≤ℤ pos 1000000 → negsuc 999999 ≤ℤ T → T ≤ℤ pos 2000000
    → R ≡ int_max T (to_z w64 (of_z w64 (to_z w64 (of_z w64 F) -ℤ to_z w64 (of_z w64 G)))) → to_z w64 (of_z w64 R) ≡ int_max T (pos m -ℤ U)
signed_bottom T R G U F n m e f k small low high tlow thigh r = omega (arith, ints, clamps)

pub bottom_fits : (T R G F : ℤ) (n : ℕ) → F ≡ pos n → n ≤ 1000000 → negsuc 999999 ≤ℤ G → G ≤ℤ pos 1000000 → negsuc 999999 ≤ℤ T → T ≤ℤ pos 2000000
    → R ≡ int_max T (to_z w64 (of_z w64 (to_z w64 (of_z w64 F) -ℤ to_z w64 (of_z w64 G)))) → to_z w64 (of_z w64 R) ≤ℤ pos 2000000
bottom_fits T R G F n f k low high tlow thigh r = omega (arith, ints, clamps)

-- a length of a size
pub along_le : (axis : Axis) (s : Size) → IsSize s → along axis s ≤ 1000000
along_le H s h = h.w
along_le V s h = h.h
along_le Z s h = h.w

-- how far two edges are apart, as the code computes it
pub reach_is : (T B : ℤ) (r n : ℕ) → negsuc 999999 ≤ℤ T → T ≤ℤ pos 1000000 → negsuc 999999 ≤ℤ B → B ≤ℤ pos 2000000
    → r ≡ length_of (to_z w64 (of_z w64 (B -ℤ T))) → length_of (B -ℤ T) ≡ n → r ≡ n
reach_is T B r n a b x y e f = e ∙ ap length_of (let same : to_z w64 (of_z w64 (B -ℤ T)) ≡ B -ℤ T = omega (arith, ints) in same) ∙ f
