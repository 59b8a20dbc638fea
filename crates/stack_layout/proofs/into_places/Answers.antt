use Rattle.std.proofs.Common.{rules}
use Rattle.std.specs.Prelude.{map}
use Rattle.std.proofs.lemmas.Cmp.{nat_cmp_total}
use Rattle.std.proofs.lemmas.List.Sorted.{answers_always, IsPermutation-map}
use Rattle.in_order.proofs.Orders.{sorted_by_is_in_order, ordered_by_cmp, SameBag-from_permutation, nat_equal, cmp_apart}
use Rattle.stack_layout.specs.Slots.{place_of}
use Rattle.in_order.specs.InOrder.{is_below}
use Rattle.stack_layout.proofs.into_places.Goals as goal

pub returns-clause-places : goal.returns-clause-places
returns-clause-places c =
    sorted_by_is_in_order is_below (ordered_by_cmp nat_cmp_total) (λ x y p q. nat_equal x y (cmp_apart nat_cmp_total x y p q)) place_of (map place_of c.args.slots.now) c.sort_unstable_by_key.new.self
    (SameBag-from_permutation _ _ (IsPermutation-map place_of _ _ c.sort_unstable_by_key.ensures.permutation))
    (c.sort_unstable_by_key.ensures.sorted place_of (answers_always _ _ _ (λ f a r g h. search rules)))
