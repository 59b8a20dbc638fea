-- The sizes of a stack's views, and the size of the stack.
use Rattle.std.specs.Prelude.{ℕ, ℤ, ◌+◌, ◌-◌, ◌*◌, ◌/◌, ◌≤◌, ◌==◌, pos, ◌-ℤ◌, neg_ℤ, fold, Bool, List, [], ◌∷◌, ◌++◌, length, sum_by, Option, Some, None, if◌then◌else◌}
use Rattle.std.specs.Ordering.{int_eq, is_lt, nat_cmp, int_cmp, ordering_then}
use Rattle.std.specs.Int.{int_min, int_max}
use Rattle.std.specs.declared.cmp.Ordering.{Ordering}
use Rattle.align_guides.specs.declared.Proposal.{Proposal}
use Rattle.align_guides.specs.declared.Size.{Size}
use Rattle.align_guides.specs.declared.Axis.{Axis}
use Rattle.align_guides.specs.declared.Axis.TheVariants.{H, V, Z}
use Rattle.align_guides.specs.Lengths.{limit, saturated, length_of}
use Rattle.in_order.specs.InOrder.{in_order}
use Rattle.stack_layout.specs.Views.{Views}

-- the length along a horizontal or a vertical axis, and the proposal that offers a length along it and another across
abbrev pub along : Axis → Size → ℕ
along H s = s.w
along V s = s.h
along Z s = s.w

abbrev pub offered : Axis → Option ℕ → Option ℕ → Proposal
offered H p c = record { w = p; h = c }
offered V p c = record { w = c; h = p }
offered Z p c = record { w = p; h = c }

abbrev pub proposed_along : Axis → Proposal → Option ℕ
proposed_along H p = p.w
proposed_along V p = p.h
proposed_along Z p = p.w

abbrev pub proposed_across : Axis → Proposal → Option ℕ
proposed_across H p = p.h
proposed_across V p = p.w
proposed_across Z p = p.h

abbrev pub crosses : Axis → Axis
crosses H = V
crosses V = H
crosses Z = V

-- the size of a length along the axis and another across
abbrev pub from_lengths : Axis → ℕ → ℕ → Size
from_lengths H a b = record { w = a; h = b }
from_lengths V a b = record { w = b; h = a }
from_lengths Z a b = record { w = a; h = b }

-- A view that waits for its offer.
pub record Turn : Type 0 where
  pub priority : ℤ
  pub flex : ℕ
  pub place : ℕ

-- the order of the offers: the higher priority first, then the less flexible, then the one that stands before
abbrev pub turn_cmp : Turn → Turn → Ordering
turn_cmp a b = ordering_then (ordering_then (int_cmp b.priority a.priority) (nat_cmp a.flex b.flex)) (nat_cmp a.place b.place)

abbrev pub comes_before : Turn → Turn → Bool
comes_before a b = is_lt (turn_cmp a b)

-- A group is a row of views of one priority: `joined` puts a view before the groups of the views after it.
abbrev pub joined : Turn → List (List Turn) → List (List Turn)
joined t [] = (t ∷ []) ∷ []
joined t ([] ∷ gs) = (t ∷ []) ∷ gs
joined t ((u ∷ us) ∷ gs) = if int_eq t.priority u.priority then (t ∷ u ∷ us) ∷ gs else (t ∷ []) ∷ (u ∷ us) ∷ gs

abbrev pub groups : List Turn → List (List Turn)
groups [] = []
groups (t ∷ ts) = joined t (groups ts)

-- A view and the size that it took.
pub record Taken : Type 0 where
  pub place : ℕ
  pub size : Size

module _ (v : Views) (axis : Axis) (c : Option ℕ) where
  -- a view's size for 0 and for the greatest length along the axis, and how flexible it is
  abbrev pub smallest : ℕ → Size
  smallest i = v.size i (offered axis (Some 0) c)

  abbrev pub largest : ℕ → Size
  largest i = v.size i (offered axis (Some limit) c)

  abbrev pub flexibility : ℕ → ℕ
  flexibility i = along axis (largest i) - along axis (smallest i)

  -- the views from place i on, by their priorities
  abbrev pub waiting : ℕ → List ℤ → List Turn
  waiting i [] = []
  waiting i (q ∷ qs) = record { priority = q; flex = flexibility i; place = i } ∷ waiting (i + 1) qs

  -- the lengths of some views at their smallest, together, and of some sizes taken
  abbrev pub smallest_length : Turn → ℕ
  smallest_length t = along axis (smallest t.place)

  abbrev pub taken_length : Taken → ℕ
  taken_length t = along axis t.size

  abbrev pub smallest_lengths : List (List Turn) → ℕ
  smallest_lengths [] = 0
  smallest_lengths (g ∷ gs) = sum_by smallest_length g + smallest_lengths gs

  -- A group with its rest: each view in turn is offered the floor of the rest divided by the views left in the group,
  -- and its size is taken off the rest, not below 0.
  abbrev pub group_takes : List Turn → ℕ → List Taken
  group_takes [] rest = []
  group_takes (t ∷ ts) rest =
      let share = rest / length (t ∷ ts) in
      let size = v.size t.place (offered axis (Some share) c) in
      record { place = t.place; size = size } ∷ group_takes ts (rest - along axis size)

  -- The groups from the highest priority down, with the room R: the rest of a group is R less the smallest sizes of all
  -- views of lower priority, which are the groups after it, not below 0; and then R loses the sizes taken, not below 0.
  abbrev pub groups_take : List (List Turn) → ℕ → List Taken
  groups_take [] room = []
  groups_take (g ∷ gs) room =
      let taken = group_takes g (room - smallest_lengths gs) in
      taken ++ groups_take gs (room - sum_by taken_length taken)

  -- what all views take of a room
  abbrev pub all_take : List ℤ → ℕ → List Taken
  all_take qs room = groups_take (groups (in_order comes_before (waiting 0 qs))) room

  -- no view is along the axis larger than what it is offered: in a group with its rest, in groups with the room, and
  -- where all views take of a room
  abbrev pub GroupYields : List Turn → ℕ → Type 0
  GroupYields [] rest = Unit {0}
  GroupYields (t ∷ ts) rest =
      let share = rest / length (t ∷ ts) in
      let size = v.size t.place (offered axis (Some share) c) in
      (along axis size ≤ share) × GroupYields ts (rest - along axis size)

  abbrev pub GroupsYield : List (List Turn) → ℕ → Type 0
  GroupsYield [] room = Unit {0}
  GroupsYield (g ∷ gs) room =
      let rest = room - smallest_lengths gs in
      GroupYields g rest × GroupsYield gs (room - sum_by taken_length (group_takes g rest))

  abbrev pub Yields : List ℤ → ℕ → Type 0
  Yields qs room = GroupsYield (groups (in_order comes_before (waiting 0 qs))) room

-- the size that the view at a place took
abbrev pub taken_at : List Taken → ℕ → Size
taken_at [] i = record { w = 0; h = 0 }
taken_at (t ∷ ts) i = if t.place == i then t.size else taken_at ts i

-- f of each place from i on
abbrev pub at_places : (ℕ → Size) → ℕ → List ℤ → List Size
at_places f i [] = []
at_places f i (q ∷ qs) = f i ∷ at_places f (i + 1) qs

-- the spacings between n views
abbrev pub gaps_of : ℕ → ℕ → ℕ
gaps_of spacing n = spacing * (n - 1)

-- the sizes along a horizontal or a vertical axis with this proposal along and across it: a proposal of nil is each
-- view's own, and of another the views share what the spacings leave
abbrev pub shared_sizes : Views → Axis → ℕ → List ℤ → Option ℕ → Option ℕ → List Size
shared_sizes v axis spacing qs None c = at_places (λ i. v.size i (offered axis None c)) 0 qs
shared_sizes v axis spacing qs (Some p) c = at_places (taken_at (all_take v axis c qs (p - gaps_of spacing (length qs)))) 0 qs

-- the sizes of a stack's views, by their priorities. On top of one another each is proposed the stack's proposal.
abbrev pub stack_sizes : Views → Axis → ℕ → List ℤ → Proposal → List Size
stack_sizes v H spacing qs p = shared_sizes v H spacing qs p.w p.h
stack_sizes v V spacing qs p = shared_sizes v V spacing qs p.h p.w
stack_sizes v Z spacing qs p = at_places (λ i. v.size i p) 0 qs

-- where the edges of the views stand across, from the view at place i on, with their guides at 0
abbrev pub tops : Views → Axis → ℕ → List Size → List ℤ
tops v cross i [] = []
tops v cross i (s ∷ ss) = neg_ℤ (v.guide i cross s) ∷ tops v cross (i + 1) ss

abbrev pub bottoms : Views → Axis → ℕ → List Size → List ℤ
bottoms v cross i [] = []
bottoms v cross i (s ∷ ss) = (pos (along cross s) -ℤ v.guide i cross s) ∷ bottoms v cross (i + 1) ss

-- the least and the greatest of some numbers
abbrev pub least_of : List ℤ → ℤ
least_of [] = pos 0
least_of (z ∷ zs) = fold int_min z zs

abbrev pub greatest_of : List ℤ → ℤ
greatest_of [] = pos 0
greatest_of (z ∷ zs) = fold int_max z zs

-- the length across: from the least top to the greatest bottom, as a length
abbrev pub extent : Views → Axis → List Size → ℕ
extent v cross ss = length_of (greatest_of (bottoms v cross 0 ss) -ℤ least_of (tops v cross 0 ss))

-- the lengths along and the spacings together
abbrev pub total_length : Axis → ℕ → List Size → ℕ
total_length axis spacing ss = saturated (sum_by (along axis) ss + gaps_of spacing (length ss))

-- the size of a stack whose views have these sizes; no views give (0, 0)
abbrev pub whole_size : Views → Axis → ℕ → List Size → Size
whole_size v axis spacing [] = record { w = 0; h = 0 }
whole_size v H spacing (s ∷ ss) = record { w = total_length H spacing (s ∷ ss); h = extent v V (s ∷ ss) }
whole_size v V spacing (s ∷ ss) = record { w = extent v H (s ∷ ss); h = total_length V spacing (s ∷ ss) }
whole_size v Z spacing (s ∷ ss) = record { w = extent v H (s ∷ ss); h = extent v V (s ∷ ss) }

abbrev pub stack_size : Views → Axis → ℕ → List ℤ → Proposal → Size
stack_size v axis spacing qs p = whole_size v axis spacing (stack_sizes v axis spacing qs p)

-- A stack whose spacings together fit its proposal, and of whose views none is along the axis larger than what it is
-- offered, is along the axis not larger than its proposal.
abbrev pub FitsWithin : Views → Axis → ℕ → List ℤ → Option ℕ → Option ℕ → ℕ → Type 0
FitsWithin v axis gaps qs None c taken = Unit {0}
FitsWithin v axis gaps qs (Some p) c taken = gaps ≤ p → Yields v axis c qs (p - gaps) → taken ≤ p

abbrev pub FitsAlong : Views → Axis → ℕ → List ℤ → Proposal → ℕ → Type 0
FitsAlong v axis spacing qs p taken = FitsWithin v axis (gaps_of spacing (length qs)) qs (proposed_along axis p) (proposed_across axis p) taken

abbrev pub FitsProposal : Views → Axis → ℕ → List ℤ → Proposal → Size → Type 0
FitsProposal v H spacing qs p s = FitsAlong v H spacing qs p s.w
FitsProposal v V spacing qs p s = FitsAlong v V spacing qs p s.h
FitsProposal v Z spacing qs p s = Unit {0}
