-- How many nodes each change of the heap leaves.
use Rattle.std.proofs.Common.{◌≡◌, ◌∙◌, ℕ, suc, ◌+◌, ◌-◌, Bool, true, false, cond, List, [], ◌∷◌, length, Some, None, Option, IsSome, refl, sym, ap, arith}
use denote.RawPtr.{Ptr}
use Rattle.edge_lists.specs.declared.node.Node.{Node}
use Rattle.edge_lists.specs.declared.node.NodePtr.{NodePtr}
use Rattle.edge_lists.specs.Heap.{Placed, placed, same_ptr, node_at, set_at, without}
use Rattle.edge_lists.specs.Links.{with_next, with_prev}

pub count_set : (ns : List Placed) (p : Ptr) (x : Node) → length (set_at ns p x) ≡ length ns
count_set [] p x = refl
count_set (n ∷ ns) p x = elim (same_ptr n.at p) as (λ b. length (cond b (placed n.at x ∷ ns) (n ∷ set_at ns p x)) ≡ suc (length ns)) [
  | true ↦ refl
  | false ↦ ap suc (count_set ns p x)
]

pub count_next : (ns : List Placed) (q x : Option NodePtr) → length (with_next ns q x) ≡ length ns
count_next ns None x = refl
count_next [] (Some q) x = refl
count_next (n ∷ ns) (Some q) x = elim (same_ptr n.at q.ptr) as (λ b. length (cond b (placed n.at (record n.node { next = x }) ∷ ns) (n ∷ with_next ns (Some q) x)) ≡ suc (length ns)) [
  | true ↦ refl
  | false ↦ ap suc (count_next ns (Some q) x)
]

pub count_prev : (ns : List Placed) (q x : Option NodePtr) → length (with_prev ns q x) ≡ length ns
count_prev ns None x = refl
count_prev [] (Some q) x = refl
count_prev (n ∷ ns) (Some q) x = elim (same_ptr n.at q.ptr) as (λ b. length (cond b (placed n.at (record n.node { prev = x }) ∷ ns) (n ∷ with_prev ns (Some q) x)) ≡ suc (length ns)) [
  | true ↦ refl
  | false ↦ ap suc (count_prev ns (Some q) x)
]

pub count_without : (ns : List Placed) (p : Ptr) (x : Node) → node_at ns p ≡ Some x → length ns ≡ length (without ns p) + 1
count_without [] p x e = cc
count_without (n ∷ ns) p x e = (elim (same_ptr n.at p) as (λ b. cond b (Some n.node) (node_at ns p) ≡ Some x → suc (length ns) ≡ length (cond b ns (n ∷ without ns p)) + 1) [
  | true ↦ λ is. omega arith
  | false ↦ λ is. let rest = count_without ns p x is in omega (arith, rest)
]) e

-- a node more, as the calls say it
pub counted : (ns put set after : List Placed) (p : NodePtr) (b x : Node) (q r : Option NodePtr) → put ≡ placed p.ptr b ∷ ns → set ≡ set_at put p.ptr x → after ≡ with_next set q r
    → (n : ℕ) → n ≡ length ns → n + 1 ≡ length after
counted ns put set after p b x q r e f g n is =
    let a = ap (λ l. length l) g ∙ count_next set q r ∙ ap (λ l. length l) f ∙ count_set put p.ptr x ∙ ap (λ l. length l) e in omega (arith, a, is)

-- a node less
pub parted_count : (ns taken next prev : List Placed) (p : Ptr) (x : Node) → node_at ns p ≡ Some x → taken ≡ without ns p → (q r u v : Option NodePtr) → next ≡ with_next taken q r → prev ≡ with_prev next u v
    → (n : ℕ) → n ≡ length ns → n - 1 ≡ length prev
parted_count ns taken next prev p x here e q r u v f g n is =
    let a = ap (λ l. length l) g ∙ count_prev next u v ∙ ap (λ l. length l) f ∙ count_next taken q r ∙ ap (λ l. length l) e in
    let b = count_without ns p x here in omega (arith, a, b, is)
