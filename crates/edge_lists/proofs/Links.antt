-- How the links change.
use Rattle.std.proofs.Common.{◌≡◌, ℕ, ◌==◌, Bool, true, false, cond, List, [], ◌∷◌, ◌++◌, length, Some, None, Option, IsSome, refl, sym, ap, subst, ◌∙◌, true≢false}
use denote.RawPtr.{Ptr}
use Rattle.edge_lists.specs.declared.node.Node.{Node}
use Rattle.edge_lists.specs.declared.node.NodePtr.{NodePtr}
use Rattle.edge_lists.specs.Heap.{Placed, placed, same_ptr, node_at, set_at, without}
use Rattle.edge_lists.specs.Links.{ptr_to, newest, source_of, reader_of, put_at, IsLinked, with_next, with_prev, IsAway, IsApart}
use Rattle.edge_lists.specs.Ends.{or_else, followed, no_ends}
use Rattle.edge_lists.specs.Edges.{pairs, places, oldest_or, IsWithin, IsWhole}
use Rattle.edge_lists.proofs.Numbers.{eq_of, eq_refl, flip_false}
use Rattle.edge_lists.proofs.Apart.{same_ptr_refl, same_ptr_eq, same_ptr_symm}

-- a path of functions from one at each number
ext : {X : Type 0} (f g : ℕ → X) → ((j : ℕ) → f j ≡ g j) → f ≡ g
ext f g h = λ i j. h j i

pub put_again : {X : Type 0} (f : ℕ → X) (k : ℕ) (v w : X) → put_at (put_at f k v) k w ≡ put_at f k w
put_again f k v w = ext _ _ (λ j. (elim (k == j) as (λ y. cond y w (cond y v (f j)) ≡ cond y w (f j)) [ true ↦ refl | false ↦ refl ]))

pub put_other : {X : Type 0} (f : ℕ → X) (k m : ℕ) (v w : X) → (m == k) ≡ false → put_at (put_at f k v) m w ≡ put_at (put_at f m w) k v
put_other f k m v w apart = ext _ _ (λ j. (elim (m == j) as (λ y. (m == j) ≡ y → cond y w (cond (k == j) v (f j)) ≡ cond (k == j) v (cond y w (f j))) [
  | true ↦ λ at. (elim (k == j) as (λ y. (k == j) ≡ y → w ≡ cond y v w) [
    | true ↦ λ here. absurd (true≢false (sym (eq_refl m) ∙ ap (λ n. m == n) (eq_of m j at ∙ sym (eq_of k j here)) ∙ apart))
    | false ↦ λ here. refl
  ]) refl
  | false ↦ λ at. refl
]) refl)

pub put_same : {X : Type 0} (f : ℕ → X) (k : ℕ) → put_at f k (f k) ≡ f
put_same f k = ext _ _ (λ j. (elim (k == j) as (λ y. (k == j) ≡ y → cond y (f k) (f j) ≡ f j) [ true ↦ λ at. ap f (eq_of k j at) | false ↦ λ at. refl ]) refl)

module _ (key : Node → ℕ) where
  -- the newest is one of the list
  pub newest_away : (p : Ptr) (k : ℕ) (q : NodePtr) (ns : List Placed) → IsAway p ns → newest key k ns ≡ Some q → same_ptr p q.ptr ≡ false
  newest_away p k q [] away e = cc
  newest_away p k q (n ∷ ns) away e = (elim (key n.node == k) as (λ y. cond y (Some (ptr_to n.at)) (newest key k ns) ≡ Some q → same_ptr p q.ptr ≡ false) [
    | true ↦ λ is. let same : ptr_to n.at ≡ q = cc in subst (λ (r : NodePtr). same_ptr p r.ptr ≡ false) same away.0
    | false ↦ λ is. newest_away p k q ns away.1 is
  ]) e

  pub newest_next : ((n : Node) (x : Option NodePtr) → key (record n { next = x }) ≡ key n) → (k : ℕ) (ns : List Placed) (q x : Option NodePtr) → newest key k (with_next ns q x) ≡ newest key k ns
  newest_next h k ns None x = refl
  newest_next h k [] (Some q) x = refl
  newest_next h k (n ∷ ns) (Some q) x = elim (same_ptr n.at q.ptr) as (λ y. newest key k (cond y (placed n.at (record n.node { next = x }) ∷ ns) (n ∷ with_next ns (Some q) x)) ≡ newest key k (n ∷ ns)) [
    | true ↦ ap (λ m. cond (m == k) (Some (ptr_to n.at)) (newest key k ns)) (h n.node x)
    | false ↦ ap (λ o. cond (key n.node == k) (Some (ptr_to n.at)) o) (newest_next h k ns (Some q) x)
  ]

-- the newest of a list below n is not n
pub skips : (n : Placed) (ns : List Placed) (o b : Option NodePtr) → ((q : NodePtr) → o ≡ Some q → same_ptr n.at q.ptr ≡ false) → with_next (n ∷ ns) o b ≡ n ∷ with_next ns o b
skips n ns None b h = refl
skips n ns (Some q) b h = ap (λ y. cond y (placed n.at (record n.node { next = b }) ∷ ns) (n ∷ with_next ns (Some q) b)) (h q refl)

-- the newest of a source is led on to b
pub retarget : (s : ℕ) (b : Option NodePtr) (up : ℕ → Option NodePtr) (ns : List Placed) → IsApart ns → IsLinked up ns → IsLinked (put_at up s b) (with_next ns (newest source_of s ns) b)
retarget s b up [] apart linked = tt
retarget s b up (n ∷ ns) apart linked =
    let N : Option NodePtr = Some (ptr_to n.at) in let k = n.node.source in
    (elim (k == s) as (λ y. (k == s) ≡ y → IsLinked (put_at up s b) (with_next (n ∷ ns) (cond y N (newest source_of s ns)) b)) [
      | true ↦ λ at.
          let is : k ≡ s = eq_of k s at in
          subst (λ y. IsLinked (put_at up s b) (cond y (placed n.at (record n.node { next = b }) ∷ ns) (n ∷ with_next ns N b))) (sym (same_ptr_refl n.at)) (
            ap (λ y. cond y b (up k)) (sym (subst (λ j. (j == k) ≡ true) is (eq_refl k))),
            linked.1,
            linked.2,
            subst (λ f. IsLinked f ns) (sym (subst (λ j. put_at (put_at up j b) k N ≡ put_at up k N) is (put_again up k b N))) linked.3,
          )
      | false ↦ λ at.
          subst (IsLinked (put_at up s b)) (sym (skips n ns (newest source_of s ns) b (λ q e. newest_away source_of n.at s q ns apart.0 e))) (
            linked.0 ∙ ap (λ y. cond y b (up k)) (sym (flip_false k s at)),
            linked.1 ∙ sym (newest_next source_of (λ m x. refl) k ns (newest source_of s ns) b),
            linked.2 ∙ sym (newest_next reader_of (λ m x. refl) n.node.reader ns (newest source_of s ns) b),
            subst (λ f. IsLinked f (with_next ns (newest source_of s ns) b)) (put_other up k s N b (flip_false k s at)) (retarget s b (put_at up k N) ns apart.1 linked.3),
          )
    ]) refl

pub set_is_next : (ns : List Placed) (q : NodePtr) (n : Node) (x : Option NodePtr) → node_at ns q.ptr ≡ Some n → set_at ns q.ptr (record n { next = x }) ≡ with_next ns (Some q) x
set_is_next [] q n x e = refl
set_is_next (m ∷ ms) q n x e = (elim (same_ptr m.at q.ptr) as (λ y. cond y (Some m.node) (node_at ms q.ptr) ≡ Some n
    → cond y (placed m.at (record n { next = x }) ∷ ms) (m ∷ set_at ms q.ptr (record n { next = x })) ≡ cond y (placed m.at (record m.node { next = x }) ∷ ms) (m ∷ with_next ms (Some q) x)) [
      | true ↦ λ is. let same : m.node ≡ n = cc in ap (λ (k : Node). placed m.at (record k { next = x }) ∷ ms) (sym same)
      | false ↦ λ is. ap (λ l. m ∷ l) (set_is_next ms q n x is)
    ]) e

pub set_is_prev : (ns : List Placed) (q : NodePtr) (n : Node) (x : Option NodePtr) → node_at ns q.ptr ≡ Some n → set_at ns q.ptr (record n { prev = x }) ≡ with_prev ns (Some q) x
set_is_prev [] q n x e = refl
set_is_prev (m ∷ ms) q n x e = (elim (same_ptr m.at q.ptr) as (λ y. cond y (Some m.node) (node_at ms q.ptr) ≡ Some n
    → cond y (placed m.at (record n { prev = x }) ∷ ms) (m ∷ set_at ms q.ptr (record n { prev = x })) ≡ cond y (placed m.at (record m.node { prev = x }) ∷ ms) (m ∷ with_prev ms (Some q) x)) [
      | true ↦ λ is. let same : m.node ≡ n = cc in ap (λ (k : Node). placed m.at (record k { prev = x }) ∷ ms) (sym same)
      | false ↦ λ is. ap (λ l. m ∷ l) (set_is_prev ms q n x is)
    ]) e

pub away_of : (p : Ptr) (ns : List Placed) → node_at ns p ≡ None → IsAway p ns
away_of p [] e = tt
away_of p (m ∷ ms) e = (elim (same_ptr m.at p) as (λ y. same_ptr m.at p ≡ y → cond y (Some m.node) (node_at ms p) ≡ None → IsAway p (m ∷ ms)) [
  | true ↦ λ at is. cc
  | false ↦ λ at is. (same_ptr_symm p m.at ∙ at, away_of p ms is)
]) refl e

pub set_front : (p : Ptr) (b x : Node) (ns : List Placed) → set_at (placed p b ∷ ns) p x ≡ placed p x ∷ ns
set_front p b x ns = ap (λ y. cond y (placed p x ∷ ns) (placed p b ∷ set_at ns p x)) (same_ptr_refl p)

pub newest_found : (key : Node → ℕ) (k : ℕ) (q : NodePtr) (ns : List Placed) → newest key k ns ≡ Some q → IsSome (node_at ns q.ptr)
newest_found key k q [] e = cc
newest_found key k q (n ∷ ns) e = (elim (key n.node == k) as (λ y. cond y (Some (ptr_to n.at)) (newest key k ns) ≡ Some q → IsSome (node_at (n ∷ ns) q.ptr)) [
  | true ↦ λ is. let same : ptr_to n.at ≡ q = cc in
      subst (λ (r : NodePtr). IsSome (cond (same_ptr n.at r.ptr) (Some n.node) (node_at ns r.ptr))) same (subst (λ y. IsSome (cond y (Some n.node) (node_at ns n.at))) (sym (same_ptr_refl n.at)) refl)
  | false ↦ λ is. elim (same_ptr n.at q.ptr) as (λ y. IsSome (cond y (Some n.node) (node_at ns q.ptr))) [ true ↦ refl | false ↦ newest_found key k q ns is ]
]) e

pub away_next : (p : Ptr) (ns : List Placed) (q x : Option NodePtr) → IsAway p ns → IsAway p (with_next ns q x)
away_next p ns None x away = away
away_next p [] (Some q) x away = tt
away_next p (n ∷ ns) (Some q) x away = elim (same_ptr n.at q.ptr) as (λ y. IsAway p (cond y (placed n.at (record n.node { next = x }) ∷ ns) (n ∷ with_next ns (Some q) x))) [
  | true ↦ away
  | false ↦ (away.0, away_next p ns (Some q) x away.1)
]

pub apart_next : (ns : List Placed) (q x : Option NodePtr) → IsApart ns → IsApart (with_next ns q x)
apart_next ns None x apart = apart
apart_next [] (Some q) x apart = tt
apart_next (n ∷ ns) (Some q) x apart = elim (same_ptr n.at q.ptr) as (λ y. IsApart (cond y (placed n.at (record n.node { next = x }) ∷ ns) (n ∷ with_next ns (Some q) x))) [
  | true ↦ apart
  | false ↦ (away_next n.at ns (Some q) x apart.0, apart_next ns (Some q) x apart.1)
]

pub pairs_next : (ns : List Placed) (q x : Option NodePtr) → pairs (with_next ns q x) ≡ pairs ns
pairs_next ns None x = refl
pairs_next [] (Some q) x = refl
pairs_next (n ∷ ns) (Some q) x = elim (same_ptr n.at q.ptr) as (λ y. pairs (cond y (placed n.at (record n.node { next = x }) ∷ ns) (n ∷ with_next ns (Some q) x)) ≡ pairs (n ∷ ns)) [
  | true ↦ refl
  | false ↦ ap (λ l. l ++ (n.node.reader, n.node.source) ∷ []) (pairs_next ns (Some q) x)
]

pub oldest_next : (o : Option NodePtr) (s : ℕ) (ns : List Placed) (q x : Option NodePtr) → oldest_or o s (with_next ns q x) ≡ oldest_or o s ns
oldest_next o s ns None x = refl
oldest_next o s [] (Some q) x = refl
oldest_next o s (n ∷ ns) (Some q) x = elim (same_ptr n.at q.ptr) as (λ y. oldest_or o s (cond y (placed n.at (record n.node { next = x }) ∷ ns) (n ∷ with_next ns (Some q) x)) ≡ oldest_or o s (n ∷ ns)) [
  | true ↦ refl
  | false ↦ oldest_next (cond (n.node.source == s) (Some (ptr_to n.at)) o) s ns (Some q) x
]

settled : (w : Option NodePtr) (q : NodePtr) (o : Option NodePtr) → or_else w (Some q) ≡ or_else (or_else w (Some q)) o
settled (Some w) q o = refl
settled None q o = refl

pub oldest_split : (o : Option NodePtr) (s : ℕ) (ns : List Placed) → oldest_or o s ns ≡ or_else (oldest_or None s ns) o
oldest_split o s [] = refl
oldest_split o s (n ∷ ns) = elim (n.node.source == s) as (λ y. oldest_or (cond y (Some (ptr_to n.at)) o) s ns ≡ or_else (oldest_or (cond y (Some (ptr_to n.at)) None) s ns) o) [
  | true ↦ oldest_split (Some (ptr_to n.at)) s ns ∙ settled (oldest_or None s ns) (ptr_to n.at) o ∙ ap (λ w. or_else w o) (sym (oldest_split (Some (ptr_to n.at)) s ns))
  | false ↦ oldest_split o s ns
]

pub within_next : (k j : ℕ) (ns : List Placed) (q x : Option NodePtr) → IsWithin k j ns → IsWithin k j (with_next ns q x)
within_next k j ns None x h = h
within_next k j [] (Some q) x h = tt
within_next k j (n ∷ ns) (Some q) x h = elim (same_ptr n.at q.ptr) as (λ y. IsWithin k j (cond y (placed n.at (record n.node { next = x }) ∷ ns) (n ∷ with_next ns (Some q) x))) [
  | true ↦ h
  | false ↦ (h.0, h.1, within_next k j ns (Some q) x h.2)
]
