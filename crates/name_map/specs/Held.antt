-- The finite map that a list of entries stands for.
use Rattle.std.specs.Prelude.{ℕ, List, map}
use Rattle.std.specs.Global.{Vec}
use Rattle.std.specs.FinMap.{from_entries}
use Rattle.name_map.specs.Names.{Places}

-- the names of the entries, with their numbers
abbrev pub places_of : List (Vec ℕ × ℕ) → Places
places_of es = from_entries (map (λ e. (e.0.items, e.1)) es)
