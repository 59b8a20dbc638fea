-- The brackets that are open within the holes of strings, the innermost first: true for the `\(` of a hole.
use Rattle.std.specs.Prelude.{Bool, true, false, List, [], ◌∷◌}

abbrev pub is_empty : List Bool → Bool
is_empty [] = true
is_empty (b ∷ bs) = false

-- behind a `(`, which counts within a hole
abbrev pub begun : List Bool → List Bool
begun [] = []
begun (b ∷ bs) = false ∷ b ∷ bs

-- behind a `)`, and whether it ends a hole
abbrev pub ended : List Bool → List Bool × Bool
ended [] = ([], false)
ended (b ∷ bs) = (bs, b)
