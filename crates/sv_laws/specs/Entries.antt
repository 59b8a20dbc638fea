-- The entries of a map in insertion order, copied one by one into a new map.
use Rattle.std.specs.Prelude.{◌≡◌, ℕ, ◌+◌, ◌<◌, Bool, true, false, Option, Some, None, List, [], ◌∷◌, ◌++◌, take, length, slice_get}
use Rattle.std.specs.List.{IsDistinct, AllByRecursion}
use Rattle.std.specs.Map.{lookup, keys_of}
use Rattle.std.specs.Option.{option_map_or}
use Rattle.std.proofs.Common.{zero, suc, refl, sym, ap, subst, ◌∙◌, cond}
use Rattle.std.proofs.lemmas.List.{take_more}
use Rattle.std.proofs.lemmas.Option.{get_or_from_slice_get}
use Rattle.indexmap.specs.IndexMap.{insert_entry}

module _ {K V : Type 0} (eq : K → K → Bool) (symm : (x y : K) → eq x y ≡ eq y x) where
  none_of : (b : Bool) (x : V) (o : Option V) → cond b (Some x) o ≡ None → (b ≡ false) × (o ≡ None)
  none_of true x o e = cc
  none_of false x o e = (refl, e)

  -- an entry at a new key goes last
  pub insert_entry_fresh : (es : List (K × V)) (k : K) (v : V) → lookup (eq k) es ≡ None → insert_entry eq es k v ≡ es ++ (k, v) ∷ []
  insert_entry_fresh [] k v none = refl
  insert_entry_fresh (e ∷ es) k v none =
      let parts = none_of (eq k e.0) e.1 (lookup (eq k) es) none in
      ap (λ b. cond b ((e.0, v) ∷ es) (e ∷ insert_entry eq es k v)) parts.0 ∙ ap (λ xs. e ∷ xs) (insert_entry_fresh es k v parts.1)

  apart_at : (k : K) (es : List (K × V)) (i : ℕ) (p : K) (s : V) → AllByRecursion (λ y. eq k y ≡ false) (keys_of es) → slice_get es i ≡ Some (p, s) → eq k p ≡ false
  apart_at k [] i p s all e = cc
  apart_at k (x ∷ es) zero p s all e = let same : x.0 ≡ p = ap (λ o. option_map_or (λ y. y.0) o p) e in subst (λ q. eq k q ≡ false) same all.0
  apart_at k (x ∷ es) (suc i) p s all e = apart_at k es i p s all.1 e

  -- no key stands before its own entry
  pub lookup-take : (es : List (K × V)) (i : ℕ) (p : K) (s : V) → IsDistinct eq (keys_of es) → slice_get es i ≡ Some (p, s) → lookup (eq p) (take i es) ≡ None
  unfolding IsDistinct
  lookup-take [] i p s distinct e = cc
  lookup-take (x ∷ es) zero p s distinct e = refl
  lookup-take (x ∷ es) (suc i) p s distinct e =
      ap (λ b. cond b (Some x.1) (lookup (eq p) (take i es))) (symm p x.0 ∙ apart_at x.0 es i p s distinct.0 e) ∙ lookup-take es i p s distinct.1 e

  -- a turn of the loop that inserts each entry into the new map
  pub copied_turn : (es so_far new : List (K × V)) (i : ℕ) (p k : K) (s v : V) → IsDistinct eq (keys_of es) → i < length es → Some (p, s) ≡ slice_get es i → k ≡ p → v ≡ s →
      so_far ≡ take i es → new ≡ insert_entry eq so_far k v → new ≡ take (i + 1) es
  copied_turn es so_far new i p k s v distinct within e same_key same_value begun is =
      is ∙ (λ j. insert_entry eq (begun j) (same_key j) (same_value j)) ∙ insert_entry_fresh (take i es) p s (lookup-take es i p s distinct (sym e))
      ∙ ap (λ x. take i es ++ x ∷ []) (sym (get_or_from_slice_get es i (p, s) (p, s) (sym e))) ∙ sym (take_more es i (p, s) within)
