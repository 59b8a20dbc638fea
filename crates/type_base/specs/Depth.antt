-- How deep a type is, and types with one `?` or more.
use Rattle.std.specs.Prelude.{◌≡◌, ℕ, zero, suc, ◌+◌, ◌<◌, Bool, true, false, Some, nat_le}
use Rattle.std.proofs.Common.{refl, sym, ap, subst, ◌∙◌, arith, ◌-◌}
use Rattle.std.proofs.lemmas.Bool.{leb-true, leb-false, le-leb, lt-leb}
use Rattle.swift_core.specs.declared.ty.Ty.{Ty, out-Ty, fold-Ty, roll-Ty, roll-out-Ty}
use Rattle.swift_core.specs.declared.ty.Ty.TheVariants as ty
use Rattle.swift_core.specs.declared.ty.Ty.TheOpen.{Ty-F}
use Rattle.swift_core.specs.declared.ty.Ty.TheViews.{outs-Optional, outs-List}
use Rattle.swift_core.specs.declared.ty.Ty.TheFolds.{map-Ty, fold_out-Ty}
use Rattle.swift_core.specs.Types.{inside_at}

abbrev pub depth_at : Ty-F ℕ → ℕ
depth_at (Ty-F.List n) = suc n
depth_at (Ty-F.Optional n) = suc n
depth_at _ = 1

-- a list type and an optional type are one deeper than the type inside; every other type is 1 deep
unfoldable pub depth : Ty → ℕ
depth = fold-Ty ℕ depth_at

-- how deep a type may be
unfoldable pub deepest : ℕ
deepest = 64

-- no deeper than a type may be
unfoldable pub is_shallow : Ty → Bool
is_shallow t = nat_le (depth t) deepest

-- t with n signs `?` behind it
unfoldable pub optional : ℕ → Ty → Ty
optional zero t = t
optional (suc n) t = ty.Optional (optional n t)

abbrev pub layer_depth : Ty-F Ty → ℕ
layer_depth layer = depth_at (map-Ty Ty ℕ depth layer)

pub depth_is : (t : Ty) → depth t ≡ layer_depth (out-Ty t)
unfolding depth
depth_is = fold_out-Ty ℕ depth_at

pub depth-Optional : (t : Ty) → depth (ty.Optional t) ≡ suc (depth t)
depth-Optional t = depth_is (ty.Optional t) ∙ ap layer_depth (outs-Optional t)

pub depth-List : (t : Ty) → depth (ty.List t) ≡ suc (depth t)
depth-List t = depth_is (ty.List t) ∙ ap layer_depth (outs-List t)

positive_at : (layer : Ty-F ℕ) → 0 < depth_at layer
positive_at (Ty-F.List n) = omega arith
positive_at (Ty-F.Optional n) = omega arith
positive_at _ = omega arith

pub depth_positive : (t : Ty) → 0 < depth t
depth_positive t = subst (λ n. 0 < n) (sym (depth_is t)) (positive_at (map-Ty Ty ℕ depth (out-Ty t)))

inside_layer : (layer : Ty-F Ty) (t : Ty) → inside_at layer ≡ Some t → layer ≡ Ty-F.Optional t
inside_layer (Ty-F.Optional u) t e = let h : u ≡ t = cc in λ i. Ty-F.Optional (h i)
inside_layer Ty-F.Int t e = cc
inside_layer Ty-F.Bool t e = cc
inside_layer Ty-F.Text t e = cc
inside_layer (Ty-F.List u) t e = cc
inside_layer (Ty-F.Named d) t e = cc

-- a type that has one inside is that type's optional
pub is-Optional : (u t : Ty) → inside_at (out-Ty u) ≡ Some t → u ≡ ty.Optional t
is-Optional u t e = sym (roll-out-Ty u) ∙ ap roll-Ty (inside_layer (out-Ty u) t e ∙ sym (outs-Optional t)) ∙ roll-out-Ty (ty.Optional t)

pub inside-Optional : (t : Ty) → inside_at (out-Ty (ty.Optional t)) ≡ Some t
inside-Optional t = ap inside_at (outs-Optional t)

pub depth_inside : (u t : Ty) → inside_at (out-Ty u) ≡ Some t → depth u ≡ suc (depth t)
depth_inside u t e = ap depth (is-Optional u t e) ∙ depth-Optional t

pub depth-optional : (n : ℕ) (t : Ty) → depth (optional n t) ≡ n + depth t
unfolding optional
depth-optional zero t = omega arith
depth-optional (suc n) t = let h = depth-optional n t in depth-Optional (optional n t) ∙ omega arith

-- ---- how the test goes down

none_within_at : (n : ℕ) → 0 < n → nat_le n 0 ≡ false
none_within_at zero lt = absurd (omega arith)
none_within_at (suc n) lt = lt-leb (suc n) 0 (omega arith)

pub none_within : (t : Ty) (room : ℕ) → room ≡ 0 → nat_le (depth t) room ≡ false
none_within t room e = ap (nat_le (depth t)) e ∙ none_within_at (depth t) (depth_positive t)

same_step : (n m : ℕ) (b c : Bool) → nat_le (suc n) (suc m) ≡ b → nat_le n m ≡ c → b ≡ c
same_step n m true true e f = refl
same_step n m false false e f = refl
same_step n m true false e f = let h = leb-true (suc n) (suc m) e in let k = leb-false n m f in absurd (omega arith)
same_step n m false true e f = let h = leb-false (suc n) (suc m) e in let k = leb-true n m f in absurd (omega arith)

step_within : (n room : ℕ) → (room ≡ 0 → ⊥) → nat_le (suc n) room ≡ nat_le n (room - 1)
step_within n zero h = absurd (h refl)
step_within n (suc m) h = same_step n m (nat_le (suc n) (suc m)) (nat_le n m) refl refl ∙ ap (nat_le n) (omega arith)

pub list_within : (t : Ty) (room : ℕ) → (room ≡ 0 → ⊥) → nat_le (depth (ty.List t)) room ≡ nat_le (depth t) (room - 1)
list_within t room h = ap (λ n. nat_le n room) (depth-List t) ∙ step_within (depth t) room h

pub optional_within : (t : Ty) (room : ℕ) → (room ≡ 0 → ⊥) → nat_le (depth (ty.Optional t)) room ≡ nat_le (depth t) (room - 1)
optional_within t room h = ap (λ n. nat_le n room) (depth-Optional t) ∙ step_within (depth t) room h

one_within : (n : ℕ) → (n ≡ 0 → ⊥) → nat_le 1 n ≡ true
one_within zero h = absurd (h refl)
one_within (suc n) h = le-leb 1 (suc n) (omega arith)

-- ---- one `?` after the other

pub optional_start : (t : Ty) → t ≡ optional 0 t
unfolding optional
optional_start t = refl

next_optional : (n : ℕ) (t : Ty) → ty.Optional (optional n t) ≡ optional (n + 1) t
unfolding optional
next_optional n t = let e : suc n ≡ n + 1 = omega arith in ap (λ k. optional k t) e

pub optional_turn : (n : ℕ) (t u : Ty) → u ≡ optional n t → ty.Optional u ≡ optional (n + 1) t
optional_turn n t u e = ap ty.Optional e ∙ next_optional n t
