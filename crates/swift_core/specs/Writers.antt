-- Which members reach a write, told by a mark for each.
use Rattle.std.specs.Prelude.{◌≡◌, ◌↔◌, ℕ, Bool, true, false, List, Option, Some, None, slice_get}
use Rattle.swift_core.specs.declared.code.CoreMember.{CoreMember}
use Rattle.swift_core.specs.Programs.{Reaches}

abbrev pub or_false : Option Bool → Bool
or_false None = false
or_false (Some b) = b

-- the mark of this number, and false where there is none
abbrev pub mark_at : List Bool → ℕ → Bool
mark_at marks n = or_false (slice_get marks n)

-- The marked pieces of code are the members that reach a write. A block has no mark of its own: what it writes is written in an
-- action, or is among what its member writes.
unfoldable pub AreWriters : List CoreMember → List Bool → Type 0
AreWriters members marks = (n : ℕ) → (mark_at marks n ≡ true) ↔ Reaches members n
