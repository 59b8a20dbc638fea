-- Views that take no more than they are offered take no more than the room.
use Rattle.std.proofs.Common.{ℕ, ◌-◌, ◌/◌, ◌≤◌, List, [], ◌∷◌, length, arith}
use Rattle.std.specs.Prelude.{sum_by, Option, Some}
use Rattle.std.proofs.lemmas.List.Sums.{sum_by-cons, sum_by-append}
use Rattle.align_guides.specs.declared.Axis.{Axis}
use Rattle.align_guides.specs.declared.Size.{Size}
use Rattle.stack_layout.specs.Views.{Views}
use Rattle.stack_layout.specs.Stacks.{along, offered, taken_length, smallest_lengths, group_takes, groups_take, GroupYields, GroupsYield, Turn, Taken}

quotient_le : (n d : ℕ) → n / d ≤ n
quotient_le n d = grind arith

module _ (v : Views) (axis : Axis) (c : Option ℕ) where
  group_le : (g : List Turn) (rest : ℕ) → GroupYields v axis c g rest → sum_by (taken_length v axis c) (group_takes v axis c g rest) ≤ rest
  group_le [] rest y = omega arith
  group_le (t ∷ ts) rest y =
      let share = rest / length (t ∷ ts) in
      let size : Size = v.size t.place (offered axis (Some share) c) in
      let x : Taken = record { place = t.place; size = size } in
      let within : share ≤ rest = quotient_le rest (length (t ∷ ts)) in
      let one : along axis size ≤ share = y.0 in
      let after = group_le ts (rest - along axis size) y.1 in
      omega (arith, after, one, within, sum_by-cons (taken_length v axis c) x (group_takes v axis c ts (rest - along axis size)))

  pub groups_le : (gs : List (List Turn)) (room : ℕ) → GroupsYield v axis c gs room → sum_by (taken_length v axis c) (groups_take v axis c gs room) ≤ room
  groups_le [] room y = omega arith
  groups_le (g ∷ gs) room y =
      let rest = room - smallest_lengths v axis c gs in
      let taken = group_takes v axis c g rest in
      let one = group_le g rest y.0 in
      let after = groups_le gs (room - sum_by (taken_length v axis c) taken) y.1 in
      omega (arith, one, after, sum_by-append (taken_length v axis c) taken (groups_take v axis c gs (room - sum_by (taken_length v axis c) taken)))

  -- views that are never larger than what they are offered, whatever that is, yield in every stack
  group_yields : ((i k : ℕ) → along axis (v.size i (offered axis (Some k) c)) ≤ k) → (g : List Turn) (rest : ℕ) → GroupYields v axis c g rest
  group_yields h [] rest = tt
  group_yields h (t ∷ ts) rest = (h t.place (rest / length (t ∷ ts)), group_yields h ts _)

  pub always_yields : ((i k : ℕ) → along axis (v.size i (offered axis (Some k) c)) ≤ k) → (gs : List (List Turn)) (room : ℕ) → GroupsYield v axis c gs room
  always_yields h [] room = tt
  always_yields h (g ∷ gs) room = (group_yields h g _, always_yields h gs _)
