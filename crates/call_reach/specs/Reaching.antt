-- Which members reach a write.
use Rattle.std.specs.Prelude.{◌≡◌, ℕ, Bool, true, false, List, Option, Some, None, slice_get}
use Rattle.call_reach.specs.declared.search.Conduct.{Conduct}

-- a member writes, or calls one that reaches a write
pub data Reaches (members : List Conduct) : ℕ → Type 0 where
  itself : {i : ℕ} {m : Conduct} → slice_get members i ≡ Some m → m.writes ≡ true → Reaches members i
  through : {i j : ℕ} {m : Conduct} (k : ℕ) → slice_get members i ≡ Some m → slice_get m.calls k ≡ Some j → Reaches members j → Reaches members i

abbrev pub or_false : Option Bool → Bool
or_false None = false
or_false (Some b) = b

-- the mark of this number
abbrev pub is_marked : List Bool → ℕ → Bool
is_marked marks i = or_false (slice_get marks i)
