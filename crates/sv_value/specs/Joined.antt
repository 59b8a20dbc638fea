-- Pieces of text in a row, with a separator between each two, as the items are written one by one.
use Rattle.std.specs.Prelude.{◌≡◌, ℕ, ◌+◌, ◌<◌, List, [], ◌∷◌, ◌++◌, length, take, slice_index_or, if◌then◌else◌, ◌==◌}
use Rattle.std.specs.List.{join_by}
use Rattle.std.proofs.Common.{refl, sym, arith}
use Rattle.std.proofs.lemmas.Grind.{common_steps, flat_map-append}
use Rattle.std.proofs.lemmas.List.{take_more, length-take}

-- what stands before the piece at this place
abbrev pub before : List ℕ → ℕ → List ℕ
before separator at = if at == 0 then [] else separator

-- one more piece
pub join_by_push : {X : Type 0} (f : X → List ℕ) (separator : List ℕ) (xs : List X) (x : X) →
    join_by f separator (xs ++ x ∷ []) ≡ join_by f separator xs ++ before separator (length xs) ++ f x
join_by_push f separator [] x = grind (arith, common_steps)
join_by_push {X} f separator (y ∷ ys) x = grind (arith, common_steps, flat_map-append {X = X} {A = ℕ} (λ p. separator ++ f p) ys (x ∷ []))

-- the pieces up to the place i and the one there
pub join_by_turn : {X : Type 0} (f : X → List ℕ) (separator : List ℕ) (xs : List X) (i : ℕ) (x : X) → i < length xs → x ≡ slice_index_or xs i x →
    join_by f separator (take (i + 1) xs) ≡ join_by f separator (take i xs) ++ before separator i ++ f x
join_by_turn f separator xs i x h e =
    let n : length (take i xs) ≡ i = simp length-take (omega arith) in
    rw (take_more xs i x h, ← e, join_by_push f separator (take i xs) x, n) refl
