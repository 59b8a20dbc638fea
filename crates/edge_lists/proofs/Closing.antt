-- When no reader has an edge, no node is left.
use Rattle.std.proofs.Common.{◌≡◌, ℕ, ◌+◌, ◌<◌, ◌≤◌, ◌==◌, Bool, true, false, cond, List, [], ◌∷◌, ◌++◌, refl, sym, ap, subst, ◌∙◌, true≢false, arith}
use Rattle.edge_lists.specs.Heap.{Placed}
use Rattle.edge_lists.specs.Edges.{pairs, others, mine, AllFrom, IsWithin}
use Rattle.edge_lists.proofs.Numbers.{eq_refl}
use Rattle.edge_lists.proofs.Unlinking.{on}
use Rattle.edge_lists.proofs.Dropping.{mine_zero}

all_end : (r : ℕ) (qs : List (ℕ × ℕ)) (q : ℕ × ℕ) → AllFrom r (qs ++ q ∷ []) → r ≤ q.0
all_end r [] q h = h.0
all_end r (z ∷ qs) q h = all_end r qs q h.1

pub none_left : (k j : ℕ) (ns : List Placed) → IsWithin k j ns → AllFrom j (pairs ns) → ns ≡ []
none_left k j [] w h = refl
none_left k j (n ∷ ns) w h = let a = all_end j (pairs ns) (n.node.reader, n.node.source) h in let b = w.1 in absurd (let z : ⊥ = omega (arith, a, b) in z)

from_others : (r : ℕ) (qs : List (ℕ × ℕ)) → AllFrom r qs → AllFrom (r + 1) (others r qs)
from_others r [] h = tt
from_others r (q ∷ qs) h = on (λ w. AllFrom (r + 1) (cond w (others r qs) (q ∷ others r qs))) (q.0 == r)
    (λ at. from_others r qs h.1)
    (λ at. let low = h.0 in let ne : (q.0 ≡ r → ⊥) = λ e. true≢false (sym (eq_refl r) ∙ ap (λ z. z == r) (sym e) ∙ at) in (omega (arith, low, ne), from_others r qs h.1))

pub cleared : (r : ℕ) (new old : List (ℕ × ℕ)) → AllFrom r old → others r new ≡ others r old → mine r new ≡ 0 → AllFrom (r + 1) new
cleared r new old h same none = subst (AllFrom (r + 1)) (sym same ∙ mine_zero r new none) (from_others r old h)

pub all_from_none : (qs : List (ℕ × ℕ)) → AllFrom 0 qs
all_from_none [] = tt
all_from_none (q ∷ qs) = (omega arith, all_from_none qs)
