-- What the parts of a list give one after another.
use Rattle.std.proofs.Common.{◌≡◌, map, List, [], ◌∷◌, ◌++◌, refl, ap}
use Rattle.std.specs.List.{flat_map}
use Rattle.swift_core.specs.Mentions.{Mentions, joined}

-- parts that are mapped first, and parts that are not
pub joined_map : {X : Type 0} (f : X → Mentions) (xs : List X) → joined (map f xs) ≡ flat_map f xs
joined_map f [] = refl
joined_map f (x ∷ xs) = ap (λ l. f x ++ l) (joined_map f xs)
