-- The offers of a stack one view after another, without groups: the same sizes as with groups.
use Rattle.std.specs.Prelude.{ℕ, ℤ, ◌-◌, ◌/◌, List, [], ◌∷◌, sum_by, count_by, Option, Some, int_lt, if◌then◌else◌}
use Rattle.std.specs.Ordering.{int_eq}
use Rattle.align_guides.specs.declared.Axis.{Axis}
use Rattle.stack_layout.specs.Views.{Views}
use Rattle.stack_layout.specs.Stacks.{along, offered, smallest, Turn, Taken}

module _ (v : Views) (axis : Axis) (c : Option ℕ) where
  -- what is kept back for views of a priority below q, of those that wait
  abbrev pub kept_back : ℤ → List Turn → ℕ
  kept_back q ts = sum_by (λ t. if int_lt t.priority q then along axis (smallest v axis c t.place) else 0) ts

  -- how many views of priority q wait
  abbrev pub group_size : ℤ → List Turn → ℕ
  group_size q ts = count_by (λ t. int_eq t.priority q) ts

  -- the views take their sizes in turn, of what is left
  abbrev pub takes : List Turn → ℕ → List Taken
  takes [] left = []
  takes (t ∷ ts) left =
      let share = (left - kept_back t.priority (t ∷ ts)) / group_size t.priority (t ∷ ts) in
      let size = v.size t.place (offered axis (Some share) c) in
      record { place = t.place; size = size } ∷ takes ts (left - along axis size)
