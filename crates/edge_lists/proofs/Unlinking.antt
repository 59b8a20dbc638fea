-- A node is taken out of both of its lists.
use Rattle.std.proofs.Common.{◌≡◌, ℕ, ◌==◌, Bool, true, false, cond, List, [], ◌∷◌, Some, None, Option, refl, sym, ap, subst, ◌∙◌, true≢false}
use denote.RawPtr.{Ptr}
use Rattle.edge_lists.specs.declared.node.Node.{Node}
use Rattle.edge_lists.specs.declared.node.NodePtr.{NodePtr}
use Rattle.edge_lists.specs.Heap.{Placed, placed, same_ptr, node_at, without}
use Rattle.edge_lists.specs.Links.{ptr_to, newest, source_of, reader_of, put_at, IsLinked, with_next, with_prev, IsAway, IsApart}
use Rattle.edge_lists.proofs.Apart.{same_ptr_refl, same_ptr_eq, same_ptr_symm}
use Rattle.edge_lists.proofs.Numbers.{eq_of, eq_refl, flip_false}
use Rattle.edge_lists.proofs.Links.{retarget, newest_away, newest_next, skips, away_next, put_again, put_same}

pub on : (P : Bool → Type 0) (b : Bool) → (b ≡ true → P true) → (b ≡ false → P false) → P b
on P true f g = f refl
on P false f g = g refl

-- whether it leads to p
abbrev pub leads : Option NodePtr → Ptr → Bool
leads None p = false
leads (Some q) p = same_ptr q.ptr p

pub clash : {X : Type 0} (b : Bool) → b ≡ true → b ≡ false → X
clash b t f = absurd (true≢false (sym t ∙ f))

pub sym_some : {X : Type 0} {a b : X} → Some a ≡ Some b → a ≡ b
sym_some e = cc

pub newest_prev : (key : Node → ℕ) → ((n : Node) (x : Option NodePtr) → key (record n { prev = x }) ≡ key n) → (k : ℕ) (ns : List Placed) (q x : Option NodePtr) → newest key k (with_prev ns q x) ≡ newest key k ns
newest_prev key h k ns None x = refl
newest_prev key h k [] (Some q) x = refl
newest_prev key h k (n ∷ ns) (Some q) x = elim (same_ptr n.at q.ptr) as (λ y. newest key k (cond y (placed n.at (record n.node { prev = x }) ∷ ns) (n ∷ with_prev ns (Some q) x)) ≡ newest key k (n ∷ ns)) [
  | true ↦ ap (λ m. cond (m == k) (Some (ptr_to n.at)) (newest key k ns)) (h n.node x)
  | false ↦ ap (λ o. cond (key n.node == k) (Some (ptr_to n.at)) o) (newest_prev key h k ns (Some q) x)
]

pub skips_prev : (n : Placed) (ns : List Placed) (o b : Option NodePtr) → ((q : NodePtr) → o ≡ Some q → same_ptr n.at q.ptr ≡ false) → with_prev (n ∷ ns) o b ≡ n ∷ with_prev ns o b
skips_prev n ns None b h = refl
skips_prev n ns (Some q) b h = ap (λ y. cond y (placed n.at (record n.node { prev = b }) ∷ ns) (n ∷ with_prev ns (Some q) b)) (h q refl)

prev_away : (ns : List Placed) (o b : Option NodePtr) → ((q : NodePtr) → o ≡ Some q → IsAway q.ptr ns) → with_prev ns o b ≡ ns
prev_away ns None b h = refl
prev_away [] (Some q) b h = refl
prev_away (n ∷ ns) (Some q) b h = skips_prev n ns (Some q) b (λ r e. let same : q ≡ r = cc in subst (λ (t : NodePtr). same_ptr n.at t.ptr ≡ false) same (same_ptr_symm n.at q.ptr ∙ (h q refl).0))
    ∙ ap (λ l. n ∷ l) (prev_away ns (Some q) b (λ r e. (h r e).1))

-- the node that is taken out of the front
in_front : (up : ℕ → Option NodePtr) (m : Placed) (ms : List Placed) → IsApart (m ∷ ms) → IsLinked up (m ∷ ms) → ((j : ℕ) (q : NodePtr) → up j ≡ Some q → IsAway q.ptr (m ∷ ms))
    → IsLinked up (with_prev (with_next ms m.node.prev m.node.next) m.node.next m.node.prev)
in_front up m ms apart linked ups =
    let s = m.node.source in let M : Option NodePtr = Some (ptr_to m.at) in
    let moved : IsLinked up (with_next ms m.node.prev m.node.next) =
    subst (λ (w : Option NodePtr × Option NodePtr). IsLinked up (with_next ms w.0 w.1)) (λ i. (sym linked.1 i, sym linked.0 i))
    (subst (λ f. IsLinked f (with_next ms (newest source_of s ms) (up s))) (put_again up s M (up s) ∙ put_same up s) (retarget s (up s) (put_at up s M) ms apart.1 linked.3)) in
    subst (IsLinked up) (sym (prev_away (with_next ms m.node.prev m.node.next) m.node.next m.node.prev (λ q e. away_next q.ptr ms m.node.prev m.node.next (ups s q (sym linked.0 ∙ e)).1))) moved

pub away_without : (a p : Ptr) (ns : List Placed) → IsAway a ns → IsAway a (without ns p)
away_without a p [] away = tt
away_without a p (n ∷ ns) away = elim (same_ptr n.at p) as (λ y. IsAway a (cond y ns (n ∷ without ns p))) [ true ↦ away.1 | false ↦ (away.0, away_without a p ns away.1) ]

module _ (key : Node → ℕ) (p : Ptr) where
  -- where p is not, nothing leads to it
  away_leads : (k : ℕ) (ns : List Placed) → IsAway p ns → leads (newest key k ns) p ≡ false
  away_leads k [] away = refl
  away_leads k (n ∷ ns) away = elim (key n.node == k) as (λ y. leads (cond y (Some (ptr_to n.at)) (newest key k ns)) p ≡ false) [
    | true ↦ same_ptr_symm n.at p ∙ away.0
    | false ↦ away_leads k ns away.1
  ]

  -- another key's newest is not p
  pub other_leads : (k : ℕ) (x : Node) (ns : List Placed) → IsApart ns → node_at ns p ≡ Some x → (key x == k) ≡ false → leads (newest key k ns) p ≡ false
  other_leads k x [] apart here off = refl
  other_leads k x (m ∷ ms) apart here off = (on (λ y. cond y (Some m.node) (node_at ms p) ≡ Some x → leads (newest key k (m ∷ ms)) p ≡ false) (same_ptr m.at p)
      (λ at is. let same : m.node ≡ x = cc in
      subst (λ y. leads (cond y (Some (ptr_to m.at)) (newest key k ms)) p ≡ false) (sym (subst (λ (n : Node). (key n == k) ≡ false) (sym same) off)) (away_leads k ms (subst (λ a. IsAway a ms) (same_ptr_eq m.at p at) apart.0)))
      (λ at is. elim (key m.node == k) as (λ y. leads (cond y (Some (ptr_to m.at)) (newest key k ms)) p ≡ false) [ true ↦ at | false ↦ other_leads k x ms apart.1 is off ])) here

  -- what is not the newest can go
  pub newest_without : (k : ℕ) (ns : List Placed) → leads (newest key k ns) p ≡ false → newest key k (without ns p) ≡ newest key k ns
  newest_without k [] off = refl
  newest_without k (m ∷ ms) off = (on (λ w. leads (cond w (Some (ptr_to m.at)) (newest key k ms)) p ≡ false → newest key k (without (m ∷ ms) p) ≡ cond w (Some (ptr_to m.at)) (newest key k ms)) (key m.node == k)
      (λ is off'. subst (λ y. newest key k (cond y ms (m ∷ without ms p)) ≡ Some (ptr_to m.at)) (sym off') (ap (λ y. cond y (Some (ptr_to m.at)) (newest key k (without ms p))) is))
      (λ is off'. on (λ y. newest key k (cond y ms (m ∷ without ms p)) ≡ newest key k ms) (same_ptr m.at p) (λ at. refl)
      (λ at. ap (λ y. cond y (Some (ptr_to m.at)) (newest key k (without ms p))) is ∙ newest_without k ms off'))) off

module _ (p : Ptr) (x : Node) where
  -- the newest of its source: its `prev` is the next newest, and its `next` is what is above
  pub was_newest : (up : ℕ → Option NodePtr) (ns : List Placed) → IsLinked up ns → node_at ns p ≡ Some x → leads (newest source_of x.source ns) p ≡ true
      → (newest source_of x.source (without ns p) ≡ x.prev) × (x.next ≡ up x.source)
  was_newest up [] linked here led = cc
  was_newest up (m ∷ ms) linked here led = (on (λ y. cond y (Some m.node) (node_at ms p) ≡ Some x → (newest source_of x.source (cond y ms (m ∷ without ms p)) ≡ x.prev) × (x.next ≡ up x.source)) (same_ptr m.at p)
      (λ at is. let same : m.node ≡ x = cc in subst (λ (n : Node). (newest source_of n.source ms ≡ n.prev) × (n.next ≡ up n.source)) same (sym linked.1, linked.0))
      (λ at is. (on (λ w. (m.node.source == x.source) ≡ w → leads (cond w (Some (ptr_to m.at)) (newest source_of x.source ms)) p ≡ true → (cond w (Some (ptr_to m.at)) (newest source_of x.source (without ms p)) ≡ x.prev) × (x.next ≡ up x.source)) (m.node.source == x.source)
      (λ k k' led'. clash (same_ptr m.at p) led' at)
      (λ k k' led'. let rest = was_newest (put_at up m.node.source (Some (ptr_to m.at))) ms linked.3 is led' in (rest.0, rest.1 ∙ ap (λ w. cond w (Some (ptr_to m.at)) (up x.source)) k))) refl led)) here

  -- else its `next` is in the list
  next_inside : (up : ℕ → Option NodePtr) (ns : List Placed) → IsLinked up ns → node_at ns p ≡ Some x → leads (newest source_of x.source ns) p ≡ false
      → (a : Ptr) → IsAway a ns → (q : NodePtr) → x.next ≡ Some q → same_ptr a q.ptr ≡ false
  next_inside up [] linked here off a away q e = cc
  next_inside up (m ∷ ms) linked here off a away q e = (on (λ y. cond y (Some m.node) (node_at ms p) ≡ Some x → same_ptr a q.ptr ≡ false) (same_ptr m.at p)
      (λ at is. let same : m.node ≡ x = cc in clash (same_ptr m.at p) at
      (subst (λ w. leads (cond w (Some (ptr_to m.at)) (newest source_of x.source ms)) p ≡ false) (subst (λ (n : Node). (n.source == x.source) ≡ true) (sym same) (eq_refl x.source)) off))
      (λ at is. on (λ (w : Bool). same_ptr a q.ptr ≡ false) (leads (newest source_of x.source ms) p)
      (λ led. let up' = (was_newest (put_at up m.node.source (Some (ptr_to m.at))) ms linked.3 is led).1 in
      (on (λ w. leads (cond w (Some (ptr_to m.at)) (newest source_of x.source ms)) p ≡ false → x.next ≡ cond w (Some (ptr_to m.at)) (up x.source) → same_ptr a q.ptr ≡ false) (m.node.source == x.source)
      (λ k off' nx. let same : ptr_to m.at ≡ q = cc in subst (λ (r : NodePtr). same_ptr a r.ptr ≡ false) same away.0)
      (λ k off' nx. clash (leads (newest source_of x.source ms) p) led off')) off up')
      (λ led. next_inside (put_at up m.node.source (Some (ptr_to m.at))) ms linked.3 is led a away.1 q e))) here

  -- its `prev` is in the list
  prev_inside : (up : ℕ → Option NodePtr) (ns : List Placed) → IsLinked up ns → node_at ns p ≡ Some x → (a : Ptr) → IsAway a ns → (q : NodePtr) → x.prev ≡ Some q → same_ptr a q.ptr ≡ false
  prev_inside up [] linked here a away q e = cc
  prev_inside up (m ∷ ms) linked here a away q e = (on (λ y. cond y (Some m.node) (node_at ms p) ≡ Some x → same_ptr a q.ptr ≡ false) (same_ptr m.at p)
      (λ at is. let same : m.node ≡ x = cc in newest_away source_of a m.node.source q ms away.1 (sym linked.1 ∙ ap (λ (n : Node). n.prev) same ∙ e))
      (λ at is. prev_inside (put_at up m.node.source (Some (ptr_to m.at))) ms linked.3 is a away.1 q e)) here

  abbrev pub taken_out : List Placed → List Placed
  taken_out ns = with_prev (with_next (without ns p) x.prev x.next) x.next x.prev

  -- the newest of its reader, and not the first of the list
  reader_off : (m : Placed) (ms : List Placed) → same_ptr m.at p ≡ false → leads (newest reader_of x.reader (m ∷ ms)) p ≡ true → ((m.node.reader == x.reader) ≡ false) × (leads (newest reader_of x.reader ms) p ≡ true)
  reader_off m ms at led = (on (λ w. (m.node.reader == x.reader) ≡ w → leads (cond w (Some (ptr_to m.at)) (newest reader_of x.reader ms)) p ≡ true → ((m.node.reader == x.reader) ≡ false) × (leads (newest reader_of x.reader ms) p ≡ true)) (m.node.reader == x.reader)
      (λ k k' led'. clash (same_ptr m.at p) led' at) (λ k k' led'. (k, led'))) refl led

  -- a node before it, to which it does not lead, stays as it is
  module _ (up : ℕ → Option NodePtr) (m : Placed) (ms : List Placed) (apart : IsApart (m ∷ ms)) (linked : IsLinked up (m ∷ ms)) (at : same_ptr m.at p ≡ false) (here : node_at ms p ≡ Some x) (rd : (m.node.reader == x.reader) ≡ false) where
    abbrev W : List Placed
    W = without ms p

    abbrev V : List Placed
    V = with_next W x.prev x.next

    abbrev up' : ℕ → Option NodePtr
    up' = put_at up m.node.source (Some (ptr_to m.at))

    first_skip : with_next (m ∷ W) x.prev x.next ≡ m ∷ V
    first_skip = skips m W x.prev x.next (λ q e. prev_inside up' ms linked.3 here m.at apart.0 q e)

    start : taken_out (m ∷ ms) ≡ with_prev (m ∷ V) x.next x.prev
    start = (λ i. with_prev (with_next (cond (at i) ms (m ∷ W)) x.prev x.next) x.next x.prev) ∙ ap (λ l. with_prev l x.next x.prev) first_skip

    reader_same : newest reader_of m.node.reader W ≡ newest reader_of m.node.reader ms
    reader_same = newest_without reader_of p m.node.reader ms (other_leads reader_of p m.node.reader x ms apart.1 here (flip_false m.node.reader x.reader rd))

    stays : ((q : NodePtr) → x.next ≡ Some q → same_ptr m.at q.ptr ≡ false) → newest source_of m.node.source W ≡ newest source_of m.node.source ms → IsLinked up' (with_prev V x.next x.prev) → IsLinked up (taken_out (m ∷ ms))
    stays off same rest = subst (IsLinked up) (sym (start ∙ skips_prev m V x.next x.prev off)) (
      linked.0,
      linked.1 ∙ sym (newest_prev source_of (λ n y. refl) m.node.source V x.next x.prev ∙ newest_next source_of (λ n y. refl) m.node.source W x.prev x.next ∙ same),
      linked.2 ∙ sym (newest_prev reader_of (λ n y. refl) m.node.reader V x.next x.prev ∙ newest_next reader_of (λ n y. refl) m.node.reader W x.prev x.next ∙ reader_same),
      rest,
    )

    -- the one linked next after it, of its source
    turns : (m.node.source == x.source) ≡ true → leads (newest source_of x.source ms) p ≡ true → IsLinked up' (with_prev V x.next x.prev) → IsLinked up (taken_out (m ∷ ms))
    turns k led rest =
        let was = was_newest up' ms linked.3 here led in
        let nx : x.next ≡ Some (ptr_to m.at) = was.1 ∙ ap (λ w. cond w (Some (ptr_to m.at)) (up x.source)) k in
        let is : m.node.source ≡ x.source = eq_of m.node.source x.source k in
        let gone : with_prev V x.next x.prev ≡ V = prev_away V x.next x.prev (λ q e. let same : ptr_to m.at ≡ q = sym_some (sym nx ∙ e) in
        subst (λ (r : NodePtr). IsAway r.ptr V) same (away_next m.at W x.prev x.next (away_without m.at p ms apart.0))) in
        subst (IsLinked up) (sym (start ∙ ap (λ o. with_prev (m ∷ V) o x.prev) nx ∙ ap (λ y. cond y (placed m.at (record m.node { prev = x.prev }) ∷ V) (m ∷ with_prev V (Some (ptr_to m.at)) x.prev)) (same_ptr_refl m.at))) (
          linked.0,
          sym (newest_next source_of (λ n y. refl) m.node.source W x.prev x.next ∙ subst (λ j. newest source_of j W ≡ x.prev) (sym is) was.0),
          linked.2 ∙ sym (newest_next reader_of (λ n y. refl) m.node.reader W x.prev x.next ∙ reader_same),
          subst (IsLinked up') gone rest,
        )

  pub unlinked : (up : ℕ → Option NodePtr) (ns : List Placed) → IsApart ns → IsLinked up ns → node_at ns p ≡ Some x → leads (newest reader_of x.reader ns) p ≡ true
      → ((j : ℕ) (q : NodePtr) → up j ≡ Some q → IsAway q.ptr ns) → IsLinked up (taken_out ns)
  unlinked up [] apart linked here led ups = cc
  unlinked up (m ∷ ms) apart linked here led ups = (on (λ y. same_ptr m.at p ≡ y → cond y (Some m.node) (node_at ms p) ≡ Some x → IsLinked up (taken_out (m ∷ ms))) (same_ptr m.at p)
      (λ at at' is. let same : m.node ≡ x = cc in
      subst (λ y. IsLinked up (with_prev (with_next (cond y ms (m ∷ without ms p)) x.prev x.next) x.next x.prev)) (sym at)
      (subst (λ (n : Node). IsLinked up (with_prev (with_next ms n.prev n.next) n.next n.prev)) same (in_front up m ms apart linked ups)))
      (λ at at' is.
      let off = reader_off m ms at led in let above = put_at up m.node.source (Some (ptr_to m.at)) in
      let rest = unlinked above ms apart.1 linked.3 is off.1 (λ j q e. on (λ (w : Bool). IsAway q.ptr ms) (m.node.source == j)
      (λ k. subst (λ (r : NodePtr). IsAway r.ptr ms) (sym_some (ap (λ w. cond w (Some (ptr_to m.at)) (up j)) (sym k) ∙ e)) apart.0)
      (λ k. (ups j q (ap (λ w. cond w (Some (ptr_to m.at)) (up j)) (sym k) ∙ e)).1)) in
      on (λ (w : Bool). IsLinked up (taken_out (m ∷ ms))) (leads (newest source_of x.source ms) p)
      (λ first. on (λ (w : Bool). IsLinked up (taken_out (m ∷ ms))) (m.node.source == x.source)
      (λ k. turns up m ms apart linked at is off.0 k first rest)
      (λ k. stays up m ms apart linked at is off.0
      (λ q e. same_ptr_symm m.at q.ptr ∙ (ups x.source q (ap (λ w. cond w (Some (ptr_to m.at)) (up x.source)) (sym k) ∙ sym (was_newest above ms linked.3 is first).1 ∙ e)).0)
      (newest_without source_of p m.node.source ms (other_leads source_of p m.node.source x ms apart.1 is (flip_false m.node.source x.source k))) rest))
      (λ later. stays up m ms apart linked at is off.0 (λ q e. next_inside above ms linked.3 is later m.at apart.0 q e)
      (newest_without source_of p m.node.source ms (on (λ (w : Bool). leads (newest source_of m.node.source ms) p ≡ false) (m.node.source == x.source)
      (λ k. subst (λ j. leads (newest source_of j ms) p ≡ false) (sym (eq_of m.node.source x.source k)) later)
      (λ k. other_leads source_of p m.node.source x ms apart.1 is (flip_false m.node.source x.source k)))) rest))) refl here
