-- A change at one place of a list.
use Rattle.std.proofs.Common.{◌≡◌, ℕ, zero, suc, ◌≤◌, List, [], ◌∷◌, Some, length, slice_get, slice_set, refl, sym, ap, ◌∙◌, arith}
use Rattle.known_rules.specs.Known.{changed_at}

-- an element that is put in the place of another, and then its changed self in its own place
pub set_changed : {X : Type 0} (f : X → X) (xs : List X) (i : ℕ) (x e y : X) → slice_get xs i ≡ Some x → y ≡ f x → slice_set (slice_set xs i e) i y ≡ changed_at f xs i
set_changed f [] i x e y g h = cc
set_changed f (z ∷ zs) zero x e y g h = let same : z ≡ x = cc in ap (λ w. w ∷ zs) (h ∙ ap f (sym same))
set_changed f (z ∷ zs) (suc i) x e y g h = ap (λ ws. z ∷ ws) (set_changed f zs i x e y g h)

pub set_same : {X : Type 0} (xs : List X) (i : ℕ) (x e y : X) → slice_get xs i ≡ Some x → x ≡ y → slice_set (slice_set xs i e) i y ≡ xs
set_same [] i x e y g h = cc
set_same (z ∷ zs) zero x e y g h = let same : z ≡ x = cc in ap (λ w. w ∷ zs) (sym h ∙ sym same)
set_same (z ∷ zs) (suc i) x e y g h = ap (λ ws. z ∷ ws) (set_same zs i x e y g h)

pub changed_past : {X : Type 0} (f : X → X) (xs : List X) (i : ℕ) → length xs ≤ i → changed_at f xs i ≡ xs
changed_past f [] i le = refl
changed_past f (z ∷ zs) zero le = absurd (omega arith)
changed_past f (z ∷ zs) (suc i) le = ap (λ ws. z ∷ ws) (changed_past f zs i (omega arith))
