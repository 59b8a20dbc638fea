-- The order of turns tells any two turns apart.
use Rattle.std.proofs.Common.{◌≡◌, false, sym, ap, ◌∙◌}
use Rattle.std.specs.Ordering.{nat_cmp, int_cmp}
use Rattle.std.specs.Cmp.{IsTotalOrder}
use Rattle.std.proofs.lemmas.Cmp.{then_total, on_total, back_total, nat_cmp_total, int_cmp_total}
use Rattle.in_order.proofs.Orders.{cmp_apart, both_equal, nat_equal, int_equal}
use Rattle.stack_layout.specs.Stacks.{Turn, turn_cmp, comes_before}

pub turn_total : IsTotalOrder turn_cmp
turn_total = then_total (then_total (back_total (on_total (λ (t : Turn). t.priority) int_cmp_total)) (on_total (λ (t : Turn). t.flex) nat_cmp_total)) (on_total (λ (t : Turn). t.place) nat_cmp_total)

pub turns_apart : (x y : Turn) → comes_before x y ≡ false → comes_before y x ≡ false → x ≡ y
turns_apart x y p q =
    let tie = cmp_apart turn_total x y p q in
    let parts = both_equal _ (nat_cmp x.place y.place) tie in
    let first = both_equal (int_cmp y.priority x.priority) (nat_cmp x.flex y.flex) parts.0 in
    let priority : x.priority ≡ y.priority = sym (int_equal _ _ first.0) in
    let flex : x.flex ≡ y.flex = nat_equal _ _ first.1 in
    let place : x.place ≡ y.place = nat_equal _ _ parts.1 in
    ap (λ a. record x { priority = a }) priority ∙ ap (λ a. record x { priority = y.priority; flex = a }) flex ∙ ap (λ a. record y { place = a }) place
