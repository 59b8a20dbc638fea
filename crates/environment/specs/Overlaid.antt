-- The values of all keys: the defaults, with the changed ones in their places.
use Rattle.std.specs.Prelude.{ℕ, List, [], ◌∷◌, slice_set}
use Rattle.sv_value.specs.declared.value.Value.{Value}

-- a changed value stands in the place of its key
abbrev pub overlaid : List Value → List (ℕ × Value) → List Value
overlaid defaults [] = defaults
overlaid defaults (e ∷ es) = slice_set (overlaid defaults es) e.0 e.1
