-- What else holds when a node is taken out of both of its lists.
use Rattle.std.proofs.Common.{◌≡◌, ℕ, ◌<◌, ◌==◌, Bool, true, false, cond, List, [], ◌∷◌, ◌++◌, length, slice_index_or, slice_set, Some, None, Option, IsSome, IfSome, refl, sym, ap, subst, ◌∙◌, true≢false, ◌⊎◌, inl, inr, ◌+◌, arith, length-set}
use Rattle.std.proofs.lemmas.List.{get_or-set_same, get_or-set_other, get_or_default}
use denote.RawPtr.{Ptr}
use Rattle.edge_lists.specs.declared.node.Node.{Node}
use Rattle.edge_lists.specs.declared.node.NodePtr.{NodePtr}
use Rattle.edge_lists.specs.declared.lists.Ends.{Ends}
use Rattle.edge_lists.specs.Heap.{Placed, placed, same_ptr, node_at, without}
use Rattle.edge_lists.specs.Links.{ptr_to, newest, source_of, reader_of, put_at, IsLinked, with_next, with_prev, IsAway, IsApart}
use Rattle.edge_lists.specs.Ends.{no_ends, parted}
use Rattle.edge_lists.specs.Edges.{Edges, pairs, oldest_or, IsWithin, others, mine, IsWhole}
use Rattle.edge_lists.proofs.Apart.{same_ptr_refl, same_ptr_eq, same_ptr_symm}
use Rattle.edge_lists.proofs.Numbers.{eq_of, eq_refl, flip_false}
use Rattle.edge_lists.proofs.Links.{newest_found, newest_next, away_next, apart_next, pairs_next, oldest_next, within_next}
use Rattle.edge_lists.proofs.Unlinking.{on, leads, clash, sym_some, newest_prev, newest_without, other_leads, away_without, was_newest, unlinked, taken_out}

away_prev : (p : Ptr) (ns : List Placed) (q x : Option NodePtr) → IsAway p ns → IsAway p (with_prev ns q x)
away_prev p ns None x away = away
away_prev p [] (Some q) x away = tt
away_prev p (n ∷ ns) (Some q) x away = elim (same_ptr n.at q.ptr) as (λ y. IsAway p (cond y (placed n.at (record n.node { prev = x }) ∷ ns) (n ∷ with_prev ns (Some q) x))) [
  | true ↦ away
  | false ↦ (away.0, away_prev p ns (Some q) x away.1)
]

pub apart_prev : (ns : List Placed) (q x : Option NodePtr) → IsApart ns → IsApart (with_prev ns q x)
apart_prev ns None x apart = apart
apart_prev [] (Some q) x apart = tt
apart_prev (n ∷ ns) (Some q) x apart = elim (same_ptr n.at q.ptr) as (λ y. IsApart (cond y (placed n.at (record n.node { prev = x }) ∷ ns) (n ∷ with_prev ns (Some q) x))) [
  | true ↦ apart
  | false ↦ (away_prev n.at ns (Some q) x apart.0, apart_prev ns (Some q) x apart.1)
]

pub apart_without : (p : Ptr) (ns : List Placed) → IsApart ns → IsApart (without ns p)
apart_without p [] apart = tt
apart_without p (n ∷ ns) apart = elim (same_ptr n.at p) as (λ y. IsApart (cond y ns (n ∷ without ns p))) [ true ↦ apart.1 | false ↦ (away_without n.at p ns apart.0, apart_without p ns apart.1) ]

pub pairs_prev : (ns : List Placed) (q x : Option NodePtr) → pairs (with_prev ns q x) ≡ pairs ns
pairs_prev ns None x = refl
pairs_prev [] (Some q) x = refl
pairs_prev (n ∷ ns) (Some q) x = elim (same_ptr n.at q.ptr) as (λ y. pairs (cond y (placed n.at (record n.node { prev = x }) ∷ ns) (n ∷ with_prev ns (Some q) x)) ≡ pairs (n ∷ ns)) [
  | true ↦ refl
  | false ↦ ap (λ l. l ++ (n.node.reader, n.node.source) ∷ []) (pairs_prev ns (Some q) x)
]

pub oldest_prev : (o : Option NodePtr) (s : ℕ) (ns : List Placed) (q x : Option NodePtr) → oldest_or o s (with_prev ns q x) ≡ oldest_or o s ns
oldest_prev o s ns None x = refl
oldest_prev o s [] (Some q) x = refl
oldest_prev o s (n ∷ ns) (Some q) x = elim (same_ptr n.at q.ptr) as (λ y. oldest_or o s (cond y (placed n.at (record n.node { prev = x }) ∷ ns) (n ∷ with_prev ns (Some q) x)) ≡ oldest_or o s (n ∷ ns)) [
  | true ↦ refl
  | false ↦ oldest_prev (cond (n.node.source == s) (Some (ptr_to n.at)) o) s ns (Some q) x
]

pub found_next : (a : Ptr) (ns : List Placed) (q x : Option NodePtr) → IsSome (node_at ns a) → IsSome (node_at (with_next ns q x) a)
found_next a ns None x h = h
found_next a [] (Some q) x h = h
found_next a (n ∷ ns) (Some q) x h = (on (λ w. IsSome (cond w (Some n.node) (node_at ns a)) → IsSome (node_at (with_next (n ∷ ns) (Some q) x) a)) (same_ptr n.at a)
    (λ k h'. elim (same_ptr n.at q.ptr) as (λ y. IsSome (node_at (cond y (placed n.at (record n.node { next = x }) ∷ ns) (n ∷ with_next ns (Some q) x)) a)) [
      | true ↦ subst (λ w. IsSome (cond w (Some (record n.node { next = x })) (node_at ns a))) (sym k) refl
      | false ↦ subst (λ w. IsSome (cond w (Some n.node) (node_at (with_next ns (Some q) x) a))) (sym k) refl
    ])
    (λ k h'. elim (same_ptr n.at q.ptr) as (λ y. IsSome (node_at (cond y (placed n.at (record n.node { next = x }) ∷ ns) (n ∷ with_next ns (Some q) x)) a)) [
      | true ↦ subst (λ w. IsSome (cond w (Some (record n.node { next = x })) (node_at ns a))) (sym k) h'
      | false ↦ subst (λ w. IsSome (cond w (Some n.node) (node_at (with_next ns (Some q) x) a))) (sym k) (found_next a ns (Some q) x h')
    ])) h

found_cons : (a : Ptr) (n : Placed) (ns : List Placed) → IsSome (node_at ns a) → IsSome (node_at (n ∷ ns) a)
found_cons a n ns h = elim (same_ptr n.at a) as (λ w. IsSome (cond w (Some n.node) (node_at ns a))) [ true ↦ refl | false ↦ h ]

found_here : (n : Placed) (ns : List Placed) → IsSome (node_at (n ∷ ns) n.at)
found_here n ns = subst (λ w. IsSome (cond w (Some n.node) (node_at ns n.at))) (sym (same_ptr_refl n.at)) refl

module _ (p : Ptr) (x : Node) where
  pub prev_found : (up : ℕ → Option NodePtr) (ns : List Placed) → IsLinked up ns → node_at ns p ≡ Some x → (q : NodePtr) → x.prev ≡ Some q → IsSome (node_at (without ns p) q.ptr)
  prev_found up [] linked here q e = cc
  prev_found up (m ∷ ms) linked here q e = (on (λ y. cond y (Some m.node) (node_at ms p) ≡ Some x → IsSome (node_at (cond y ms (m ∷ without ms p)) q.ptr)) (same_ptr m.at p)
      (λ at is. newest_found source_of m.node.source q ms (sym linked.1 ∙ ap (λ (n : Node). n.prev) (sym_some is) ∙ e))
      (λ at is. found_cons q.ptr m (without ms p) (prev_found (put_at up m.node.source (Some (ptr_to m.at))) ms linked.3 is q e))) here

  pub next_or_up : (up : ℕ → Option NodePtr) (ns : List Placed) → IsLinked up ns → node_at ns p ≡ Some x → (q : NodePtr) → x.next ≡ Some q → (up x.source ≡ Some q) ⊎ IsSome (node_at (without ns p) q.ptr)
  next_or_up up [] linked here q e = cc
  next_or_up up (m ∷ ms) linked here q e = (on (λ y. cond y (Some m.node) (node_at ms p) ≡ Some x → (up x.source ≡ Some q) ⊎ IsSome (node_at (cond y ms (m ∷ without ms p)) q.ptr)) (same_ptr m.at p)
      (λ at is. inl (sym (subst (λ (n : Node). n.next ≡ up n.source) (sym_some is) linked.0) ∙ e))
      (λ at is. elim (next_or_up (put_at up m.node.source (Some (ptr_to m.at))) ms linked.3 is q e) [
        | inl a ↦ (on (λ w. cond w (Some (ptr_to m.at)) (up x.source) ≡ Some q → (up x.source ≡ Some q) ⊎ IsSome (node_at (m ∷ without ms p) q.ptr)) (m.node.source == x.source)
            (λ k a'. inr (subst (λ (r : NodePtr). IsSome (node_at (m ∷ without ms p) r.ptr)) (sym_some a') (found_here m (without ms p)))) (λ k a'. inl a')) a
        | inr h ↦ inr (found_cons q.ptr m (without ms p) h)
      ])) here

  -- its `next` says whether it was the newest
  pub next_some : (up : ℕ → Option NodePtr) (ns : List Placed) → IsLinked up ns → node_at ns p ≡ Some x → leads (newest source_of x.source ns) p ≡ false → x.next ≡ None → ⊥
  next_some up [] linked here off e = cc
  next_some up (m ∷ ms) linked here off e = (on (λ y. cond y (Some m.node) (node_at ms p) ≡ Some x → ⊥) (same_ptr m.at p)
      (λ at is. clash (same_ptr m.at p) at (subst (λ w. leads (cond w (Some (ptr_to m.at)) (newest source_of x.source ms)) p ≡ false) (subst (λ (n : Node). (n.source == x.source) ≡ true) (sym (sym_some is)) (eq_refl x.source)) off))
      (λ at is. on (λ (w : Bool). ⊥) (leads (newest source_of x.source ms) p)
      (λ led. (on (λ w. leads (cond w (Some (ptr_to m.at)) (newest source_of x.source ms)) p ≡ false → x.next ≡ cond w (Some (ptr_to m.at)) (up x.source) → ⊥) (m.node.source == x.source)
      (λ k off' nx. cc) (λ k off' nx. clash (leads (newest source_of x.source ms) p) led off')) off (was_newest p x (put_at up m.node.source (Some (ptr_to m.at))) ms linked.3 is led).1)
      (λ led. next_some (put_at up m.node.source (Some (ptr_to m.at))) ms linked.3 is led e))) here

  -- the newest of its reader: its `below` is the next newest
  pub below_newest : (up : ℕ → Option NodePtr) (ns : List Placed) → IsLinked up ns → node_at ns p ≡ Some x → leads (newest reader_of x.reader ns) p ≡ true → newest reader_of x.reader (without ns p) ≡ x.below
  below_newest up [] linked here led = cc
  below_newest up (m ∷ ms) linked here led = (on (λ y. cond y (Some m.node) (node_at ms p) ≡ Some x → newest reader_of x.reader (cond y ms (m ∷ without ms p)) ≡ x.below) (same_ptr m.at p)
      (λ at is. subst (λ (n : Node). newest reader_of n.reader ms ≡ n.below) (sym_some is) (sym linked.2))
      (λ at is. (on (λ w. leads (cond w (Some (ptr_to m.at)) (newest reader_of x.reader ms)) p ≡ true → cond w (Some (ptr_to m.at)) (newest reader_of x.reader (without ms p)) ≡ x.below) (m.node.reader == x.reader)
      (λ k led'. clash (same_ptr m.at p) led' at) (λ k led'. below_newest (put_at up m.node.source (Some (ptr_to m.at))) ms linked.3 is led')) led)) here

pub oldest_none : (o : Option NodePtr) (s : ℕ) (ns : List Placed) → newest source_of s ns ≡ None → oldest_or o s ns ≡ o
oldest_none o s [] e = refl
oldest_none o s (n ∷ ns) e = (on (λ w. cond w (Some (ptr_to n.at)) (newest source_of s ns) ≡ None → oldest_or (cond w (Some (ptr_to n.at)) o) s ns ≡ o) (n.node.source == s) (λ k e'. cc) (λ k e'. oldest_none o s ns e')) e

oldest_some : (o o' : Option NodePtr) (s : ℕ) (ns : List Placed) (q : NodePtr) → newest source_of s ns ≡ Some q → oldest_or o s ns ≡ oldest_or o' s ns
oldest_some o o' s [] q e = cc
oldest_some o o' s (n ∷ ns) q e = (on (λ w. cond w (Some (ptr_to n.at)) (newest source_of s ns) ≡ Some q → oldest_or (cond w (Some (ptr_to n.at)) o) s ns ≡ oldest_or (cond w (Some (ptr_to n.at)) o') s ns) (n.node.source == s)
    (λ k e'. refl) (λ k e'. oldest_some o o' s ns q e')) e

-- the first of a source where one with these neighbours has gone
abbrev pub first_without : Node → Option NodePtr → Option NodePtr
first_without x o = elim x.prev [ None ↦ x.next | Some q ↦ o ]

abbrev pub last_without : Node → Option NodePtr → Option NodePtr
last_without x o = elim x.next [ None ↦ x.prev | Some q ↦ o ]

oldest_front : (up : ℕ → Option NodePtr) (m : Placed) (ms : List Placed) → IsLinked up (m ∷ ms) → oldest_or (up m.node.source) m.node.source ms ≡ first_without m.node (oldest_or (up m.node.source) m.node.source (m ∷ ms))
oldest_front up m ms linked =
    let s = m.node.source in let o = up s in let M : Option NodePtr = Some (ptr_to m.at) in
    (elim m.node.prev as (λ w. m.node.prev ≡ w → oldest_or o s ms ≡ elim w [ None ↦ m.node.next | Some q ↦ oldest_or (cond (s == s) M o) s ms ]) [
      | None ↦ λ e. oldest_none o s ms (sym linked.1 ∙ e) ∙ sym linked.0
      | Some q ↦ λ e. oldest_some o (cond (s == s) M o) s ms q (sym linked.1 ∙ e)
    ]) refl

module _ (p : Ptr) (x : Node) where
  pub oldest_without : (up : ℕ → Option NodePtr) (ns : List Placed) → IsLinked up ns → node_at ns p ≡ Some x → oldest_or (up x.source) x.source (without ns p) ≡ first_without x (oldest_or (up x.source) x.source ns)
  oldest_without up [] linked here = cc
  oldest_without up (m ∷ ms) linked here = (on (λ y. cond y (Some m.node) (node_at ms p) ≡ Some x → oldest_or (up x.source) x.source (cond y ms (m ∷ without ms p)) ≡ first_without x (oldest_or (up x.source) x.source (m ∷ ms))) (same_ptr m.at p)
      (λ at is. subst (λ (n : Node). oldest_or (up n.source) n.source ms ≡ first_without n (oldest_or (up n.source) n.source (m ∷ ms))) (sym_some is) (oldest_front up m ms linked))
      (λ at is. oldest_without (put_at up m.node.source (Some (ptr_to m.at))) ms linked.3 is)) here

  pub oldest_other : (o : Option NodePtr) (t : ℕ) (ns : List Placed) → node_at ns p ≡ Some x → (x.source == t) ≡ false → oldest_or o t (without ns p) ≡ oldest_or o t ns
  oldest_other o t [] here off = cc
  oldest_other o t (m ∷ ms) here off = (on (λ y. cond y (Some m.node) (node_at ms p) ≡ Some x → oldest_or o t (cond y ms (m ∷ without ms p)) ≡ oldest_or (cond (m.node.source == t) (Some (ptr_to m.at)) o) t ms) (same_ptr m.at p)
      (λ at is. ap (λ w. oldest_or (cond w (Some (ptr_to m.at)) o) t ms) (sym (subst (λ (n : Node). (n.source == t) ≡ false) (sym (sym_some is)) off)))
      (λ at is. oldest_other (cond (m.node.source == t) (Some (ptr_to m.at)) o) t ms is off)) here

pub within_prev : (k j : ℕ) (ns : List Placed) (q x : Option NodePtr) → IsWithin k j ns → IsWithin k j (with_prev ns q x)
within_prev k j ns None x h = h
within_prev k j [] (Some q) x h = tt
within_prev k j (n ∷ ns) (Some q) x h = elim (same_ptr n.at q.ptr) as (λ y. IsWithin k j (cond y (placed n.at (record n.node { prev = x }) ∷ ns) (n ∷ with_prev ns (Some q) x))) [
  | true ↦ h
  | false ↦ (h.0, h.1, within_prev k j ns (Some q) x h.2)
]

pub within_without : (k j : ℕ) (p : Ptr) (ns : List Placed) → IsWithin k j ns → IsWithin k j (without ns p)
within_without k j p [] h = tt
within_without k j p (n ∷ ns) h = elim (same_ptr n.at p) as (λ y. IsWithin k j (cond y ns (n ∷ without ns p))) [ true ↦ h.2 | false ↦ (h.0, h.1, within_without k j p ns h.2) ]

pub within_at : (k j : ℕ) (p : Ptr) (x : Node) (ns : List Placed) → IsWithin k j ns → node_at ns p ≡ Some x → x.source < k
within_at k j p x [] h e = cc
within_at k j p x (n ∷ ns) h e = (on (λ y. cond y (Some n.node) (node_at ns p) ≡ Some x → x.source < k) (same_ptr n.at p)
    (λ at is. subst (λ (m : Node). m.source < k) (sym_some is) h.0) (λ at is. within_at k j p x ns h.2 is)) e

others_end : (r : ℕ) (qs : List (ℕ × ℕ)) (q : ℕ × ℕ) → others r (qs ++ q ∷ []) ≡ others r qs ++ cond (q.0 == r) [] (q ∷ [])
others_end r [] q = elim (q.0 == r) as (λ y. cond y [] (q ∷ []) ≡ cond y [] (q ∷ [])) [ true ↦ refl | false ↦ refl ]
others_end r (z ∷ qs) q = elim (z.0 == r) as (λ y. cond y (others r (qs ++ q ∷ [])) (z ∷ others r (qs ++ q ∷ [])) ≡ cond y (others r qs) (z ∷ others r qs) ++ cond (q.0 == r) [] (q ∷ [])) [
  | true ↦ others_end r qs q
  | false ↦ ap (λ l. z ∷ l) (others_end r qs q)
]

abbrev one_if : Bool → ℕ
one_if b = cond b 1 0

pub mine_end : (r : ℕ) (qs : List (ℕ × ℕ)) (q : ℕ × ℕ) → mine r (qs ++ q ∷ []) ≡ mine r qs + one_if (q.0 == r)
mine_end r [] q = elim (q.0 == r) as (λ y. cond y (mine r [] + 1) (mine r []) ≡ mine r [] + one_if y) [ true ↦ refl | false ↦ refl ]
mine_end r (z ∷ qs) q = elim (z.0 == r) as (λ y. cond y (mine r (qs ++ q ∷ []) + 1) (mine r (qs ++ q ∷ [])) ≡ cond y (mine r qs + 1) (mine r qs) + one_if (q.0 == r)) [
  | true ↦ (let e = mine_end r qs q in omega arith)
  | false ↦ mine_end r qs q
]

append_nil : {X : Type 0} (l : List X) → l ++ [] ≡ l
append_nil [] = refl
append_nil (x ∷ l) = ap (λ m. x ∷ m) (append_nil l)

module _ (p : Ptr) (x : Node) where
  pub others_same : (ns : List Placed) → node_at ns p ≡ Some x → others x.reader (pairs (without ns p)) ≡ others x.reader (pairs ns)
  others_same [] here = cc
  others_same (m ∷ ms) here = (on (λ y. cond y (Some m.node) (node_at ms p) ≡ Some x → others x.reader (pairs (cond y ms (m ∷ without ms p))) ≡ others x.reader (pairs ms ++ (m.node.reader, m.node.source) ∷ [])) (same_ptr m.at p)
      (λ at is. sym (others_end x.reader (pairs ms) (m.node.reader, m.node.source)
      ∙ ap (λ y. others x.reader (pairs ms) ++ cond y [] ((m.node.reader, m.node.source) ∷ [])) (subst (λ (n : Node). (n.reader == x.reader) ≡ true) (sym (sym_some is)) (eq_refl x.reader)) ∙ append_nil (others x.reader (pairs ms))))
      (λ at is. others_end x.reader (pairs (without ms p)) (m.node.reader, m.node.source) ∙ ap (λ l. l ++ cond (m.node.reader == x.reader) [] ((m.node.reader, m.node.source) ∷ [])) (others_same ms is)
      ∙ sym (others_end x.reader (pairs ms) (m.node.reader, m.node.source)))) here

  pub mine_less : (ns : List Placed) → node_at ns p ≡ Some x → mine x.reader (pairs ns) ≡ mine x.reader (pairs (without ns p)) + 1
  mine_less [] here = cc
  mine_less (m ∷ ms) here = (on (λ y. cond y (Some m.node) (node_at ms p) ≡ Some x → mine x.reader (pairs ms ++ (m.node.reader, m.node.source) ∷ []) ≡ mine x.reader (pairs (cond y ms (m ∷ without ms p))) + 1) (same_ptr m.at p)
      (λ at is. mine_end x.reader (pairs ms) (m.node.reader, m.node.source) ∙ ap (λ y. mine x.reader (pairs ms) + one_if y) (subst (λ (n : Node). (n.reader == x.reader) ≡ true) (sym (sym_some is)) (eq_refl x.reader)))
      (λ at is. let a = mine_end x.reader (pairs ms) (m.node.reader, m.node.source) in let b = mine_end x.reader (pairs (without ms p)) (m.node.reader, m.node.source) in let e = mine_less ms is in omega arith)) here

pub mine_none : (r : ℕ) (ns : List Placed) → newest reader_of r ns ≡ None → mine r (pairs ns) ≡ 0
mine_none r [] e = refl
mine_none r (m ∷ ms) e = (on (λ w. (m.node.reader == r) ≡ w → cond w (Some (ptr_to m.at)) (newest reader_of r ms) ≡ None → mine r (pairs (m ∷ ms)) ≡ 0) (m.node.reader == r)
    (λ k k' e'. cc) (λ k k' e'. mine_end r (pairs ms) (m.node.reader, m.node.source) ∙ (λ i. mine_none r ms e' i + one_if (k i)))) refl e

pub mine_zero : (r : ℕ) (qs : List (ℕ × ℕ)) → mine r qs ≡ 0 → others r qs ≡ qs
mine_zero r [] e = refl
mine_zero r (q ∷ qs) e = (on (λ w. cond w (mine r qs + 1) (mine r qs) ≡ 0 → cond w (others r qs) (q ∷ others r qs) ≡ q ∷ qs) (q.0 == r)
    (λ k e'. absurd (let z : ⊥ = omega (arith, e') in z)) (λ k e'. ap (λ l. q ∷ l) (mine_zero r qs e'))) e
