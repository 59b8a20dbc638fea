-- Lists that are made one element after the other, and numbers of 32 bits.
use Rattle.std.specs.Prelude.{◌≡◌, ℕ, zero, suc, ◌+◌, ◌<◌, ◌≤◌, Bool, List, [], ◌∷◌, ◌++◌, length, take, map, min, if◌then◌else◌, nat_le}
use Rattle.name_map.specs.Names.{Places, no_names, with_new, with_new_names}

-- the greatest number of 32 bits
unfoldable pub greatest : ℕ
greatest = 4294967295

-- a number of 32 bits; what is greater stays at the greatest
unfoldable pub narrow : ℕ → ℕ
narrow n = min n greatest

-- the greatest number of 64 bits
unfoldable pub widest : ℕ
widest = 18446744073709551615

-- a number of 64 bits; what is greater stays at the greatest
unfoldable pub wide : ℕ → ℕ
wide n = min n widest

-- what each element gives, joined: it may depend on the elements that stand before it
abbrev pub along_from : {X Y : Type 0} → (List X → X → List Y) → List X → List X → List Y
along_from f before [] = []
along_from f before (x ∷ xs) = f before x ++ along_from f (before ++ x ∷ []) xs

unfoldable pub along : {X Y : Type 0} → (List X → X → List Y) → List X → List Y
along f xs = along_from f [] xs

-- a number for each name, which is its place: of a name that stands twice the first place counts
unfoldable pub first_places : List (List ℕ) → Places
first_places names = with_new_names no_names 0 (take (suc greatest) names)

-- the name of the next place, where it has none yet
unfoldable pub with_place : Places → List ℕ → ℕ → Places
with_place places name at = if nat_le at greatest then with_new places name at else places
