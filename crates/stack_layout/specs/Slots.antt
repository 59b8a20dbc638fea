-- The slots of a plan.
use Rattle.std.specs.Prelude.{◌≡◌, ℕ, ℤ, pos, negsuc, ◌≤ℤ◌, ◌+◌, ◌-◌, ◌/◌, ◌<◌, Bool, List, [], ◌∷◌, length, map, Option, slice_index_or, sum_by, count_by, int_lt, if◌then◌else◌}
use Rattle.std.specs.Ordering.{int_eq}
use Rattle.align_guides.specs.declared.Size.{Size}
use Rattle.align_guides.specs.declared.Proposal.{Proposal}
use Rattle.align_guides.specs.declared.Axis.{Axis}
use Rattle.align_guides.specs.declared.Axis.TheVariants.{H, V, Z}
use Rattle.align_guides.specs.Lengths.{IsSize}
use Rattle.stack_layout.specs.declared.Edges.{Edges}
use Rattle.stack_layout.specs.declared.Slot.{Slot}
use Rattle.stack_layout.specs.Views.{Views}
use Rattle.stack_layout.specs.Stacks.{along, flexibility, smallest, gaps_of, FitsAlong, Turn, Taken}

-- the slot at i has the place i
pub record InPlace (slots : List Slot) : Type 0 where
  pub at : (k : ℕ) (d : Slot) → k < length slots → (slice_index_or slots k d).place ≡ k

abbrev pub place_of : Slot → ℕ
place_of s = s.place

abbrev pub priority_of : Slot → ℤ
priority_of s = s.priority

abbrev pub size_of : Slot → Size
size_of s = s.size

abbrev pub turn_of : Slot → Turn
turn_of s = record { priority = s.priority; flex = s.flex; place = s.place }

abbrev pub taken_of : Slot → Taken
taken_of s = record { place = s.place; size = s.size }

-- the size in a slot is made of lengths
abbrev pub IsSized : Slot → Type 0
IsSized s = IsSize s.size

-- a slot whose view was asked for its size for the smallest and for the greatest length
abbrev pub measured : Views → Axis → Option ℕ → Slot → Slot
measured v axis c s = record s { flex = flexibility v axis c s.place; size = smallest v axis c s.place }

-- a slot whose view was proposed p
abbrev pub sized_for : Views → Proposal → Slot → Slot
sized_for v p s = record s { size = v.size s.place p }

-- what a slot keeps back from those of priority q: its smallest length, if its priority is lower
abbrev pub kept_of : Axis → ℤ → Slot → ℕ
kept_of axis q s = if int_lt s.priority q then along axis s.size else 0

abbrev pub is_of_group : ℤ → Slot → Bool
is_of_group q s = int_eq s.priority q

-- the share of the first view, where these slots wait and hold their smallest sizes
abbrev pub slot_share : Axis → List Slot → ℕ → ℕ
slot_share axis [] left = 0
slot_share axis (s ∷ ss) left = (left - sum_by (kept_of axis s.priority) (s ∷ ss)) / count_by (is_of_group s.priority) (s ∷ ss)

-- the lengths of the slots and the spacings together fit the proposal along the axis
abbrev pub FitsSlots : Views → Axis → ℕ → List ℤ → Proposal → List Slot → Type 0
FitsSlots v H spacing qs p ss = FitsAlong v H spacing qs p (sum_by (along H) (map size_of ss) + gaps_of spacing (length qs))
FitsSlots v V spacing qs p ss = FitsAlong v V spacing qs p (sum_by (along V) (map size_of ss) + gaps_of spacing (length qs))
FitsSlots v Z spacing qs p ss = Unit {0}

-- edges that stand within the bounds of guides and lengths
pub record AreEdges (e : Edges) : Type 0 where
  pub top_low : negsuc 999999 ≤ℤ e.top
  pub top_high : e.top ≤ℤ pos 1000000
  pub bottom_low : negsuc 999999 ≤ℤ e.bottom
  pub bottom_high : e.bottom ≤ℤ pos 2000000
