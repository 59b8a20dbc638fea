use Rattle.std.proofs.lemmas.Cmp.{nat_cmp_total}
use Rattle.in_order.specs.InOrder.{is_below}
use Rattle.in_order.proofs.Orders.{sorted_is_in_order, ordered_by_cmp, SameBag-from_permutation, numbers_apart}
use Rattle.in_order.proofs.put_in_order.Goals as goal

pub returns : goal.returns
returns c =
    sorted_is_in_order is_below (ordered_by_cmp nat_cmp_total) numbers_apart c.args.numbers.now c.sort_unstable.new.self
    (SameBag-from_permutation _ _ c.sort_unstable.ensures.permutation) c.sort_unstable.ensures.sorted
