-- An item is a form: a unit of fuel, and then the item, where one form less may be entered.
use Rattle.std.proofs.Common.{◌≡◌, ℕ, zero, suc, ◌-◌, refl, ap, arith}
use Rattle.swift_core.specs.declared.item.CoreItem.{CoreItem}
use Rattle.swift_core.specs.Codes.{Parts as Program}
use Rattle.value_calls.specs.declared.traps.TrapKind.TheVariants.{Calls}
use Rattle.core_means.specs.Asks.{World, and_then, spend, trap}
use Rattle.body_means.specs.Items.{building, item_form, item_means}

pub item_none : (p : Program) (room code : ℕ) (x : CoreItem) (w : World) → room ≡ 0 → item_means p room code x w ≡ and_then (spend w) (λ _. trap Calls)
unfolding item_means
item_none p room code x w z = ap (λ (n : ℕ). item_means p n code x w) z

pub item_opens : (p : Program) (room code : ℕ) (x : CoreItem) (w : World) → (room ≡ 0 → ⊥)
    → item_means p room code x w ≡ and_then (spend w) (λ _. item_form (building p (room - 1) code) x)
unfolding item_means
item_opens p zero code x w ne = absurd (ne refl)
item_opens p (suc n) code x w ne =
    let h : n ≡ suc n - 1 = omega arith in
    ap (λ (m : ℕ). and_then (spend w) (λ _. item_form (building p m code) x)) h
