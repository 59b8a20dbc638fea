use Rattle.std.proofs.Common.{rules}
use Rattle.std.specs.Prelude.{map}
use Rattle.std.proofs.lemmas.List.Sorted.{answers_always, IsPermutation-map}
use Rattle.in_order.proofs.Orders.{sorted_by_is_in_order, ordered_by_cmp, SameBag-from_permutation}
use Rattle.stack_layout.specs.declared.Slot.{Slot}
use Rattle.stack_layout.specs.Stacks.{comes_before}
use Rattle.stack_layout.specs.Slots.{turn_of}
use Rattle.stack_layout.proofs.Turns.{turn_total, turns_apart}
use Rattle.stack_layout.proofs.into_turns.Goals as goal

pub returns-clause-turns : goal.returns-clause-turns
returns-clause-turns c =
    sorted_by_is_in_order comes_before (ordered_by_cmp turn_total) turns_apart turn_of (map turn_of c.args.slots.now) c.sort_unstable_by_key.new.self
    (SameBag-from_permutation _ _ (IsPermutation-map turn_of _ _ c.sort_unstable_by_key.ensures.permutation))
    (c.sort_unstable_by_key.ensures.sorted (λ (s : Slot). (record { 0 = s.priority }, s.flex, s.place)) (answers_always _ _ _ (λ f a r g h. search rules)))
