-- What the parts of a list alter one after another.
use Rattle.std.proofs.Common.{◌≡◌, map, List, [], ◌∷◌, ◌++◌, refl, ap}
use Rattle.std.specs.List.{flat_map}
use Rattle.swift_core.specs.Alters.{Alters, all_of}

-- parts that are mapped first, and parts that are not
pub joined_map : {X : Type 0} (f : X → Alters) (xs : List X) → all_of (map f xs) ≡ flat_map f xs
joined_map f [] = refl
joined_map f (x ∷ xs) = ap (λ l. f x ++ l) (joined_map f xs)
