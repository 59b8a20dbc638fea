-- The list of a source, from its first edge on.
use Rattle.std.proofs.Common.{◌≡◌, ℕ, zero, suc, ◌+◌, ◌<◌, arith, ◌==◌, Bool, true, false, cond, List, [], ◌∷◌, ◌++◌, length, slice_index_or, slice_get, Some, None, Option, IsSome, refl, sym, ap, subst, ◌∙◌, ◌⊎◌, inl, inr}
use Rattle.std.proofs.lemmas.List.{get_or_default, length-append}
use denote.RawPtr.{Ptr}
use Rattle.edge_lists.specs.declared.node.NodePtr.{NodePtr}
use Rattle.edge_lists.specs.declared.lists.Ends.{Ends}
use Rattle.edge_lists.specs.declared.node.Node.{Node}
use Rattle.edge_lists.specs.Heap.{Placed, same_ptr, node_at}
use Rattle.edge_lists.specs.Links.{ptr_to, put_at, IsLinked, IsAway, IsApart}
use Rattle.edge_lists.specs.Ends.{no_ends}
use Rattle.edge_lists.specs.Edges.{pairs, places, chain_of, IsFirst, readers_of, oldest_or, IsWhole}
use Rattle.edge_lists.proofs.Unlinking.{on, sym_some}
use Rattle.edge_lists.proofs.Apart.{same_ptr_refl, same_ptr_eq, same_ptr_symm}
use Rattle.edge_lists.proofs.Numbers.{eq_of}

abbrev Even : List (ℕ × ℕ) → List Ptr → Type 0
Even [] [] = Unit {0}
Even [] (p ∷ ps) = ⊥
Even (q ∷ qs) [] = ⊥
Even (q ∷ qs) (p ∷ ps) = Even qs ps

even_end : (qs : List (ℕ × ℕ)) (ps : List Ptr) (q : ℕ × ℕ) (p : Ptr) → Even qs ps → Even (qs ++ q ∷ []) (ps ++ p ∷ [])
even_end [] [] q p e = tt
even_end [] (p' ∷ ps) q p e = absurd e
even_end (q' ∷ qs) [] q p e = absurd e
even_end (q' ∷ qs) (p' ∷ ps) q p e = even_end qs ps q p e

chain_end : (s : ℕ) (qs : List (ℕ × ℕ)) (ps : List Ptr) (q : ℕ × ℕ) (p : Ptr) → Even qs ps → chain_of s (qs ++ q ∷ []) (ps ++ p ∷ []) ≡ chain_of s qs ps ++ cond (q.1 == s) (p ∷ []) []
chain_end s [] [] q p e = refl
chain_end s [] (p' ∷ ps) q p e = absurd e
chain_end s (q' ∷ qs) [] q p e = absurd e
chain_end s (q' ∷ qs) (p' ∷ ps) q p e = elim (q'.1 == s) as (λ y. cond y (p' ∷ chain_of s (qs ++ q ∷ []) (ps ++ p ∷ [])) (chain_of s (qs ++ q ∷ []) (ps ++ p ∷ [])) ≡ cond y (p' ∷ chain_of s qs ps) (chain_of s qs ps) ++ cond (q.1 == s) (p ∷ []) []) [
  | true ↦ ap (λ l. p' ∷ l) (chain_end s qs ps q p e)
  | false ↦ chain_end s qs ps q p e
]

even : (ns : List Placed) → Even (pairs ns) (places ns)
even [] = tt
even (n ∷ ns) = even_end (pairs ns) (places ns) (n.node.reader, n.node.source) n.at (even ns)

abbrev head_or : List Ptr → Option NodePtr → Option NodePtr
head_or [] o = o
head_or (p ∷ ps) o = Some (ptr_to p)

head_end : (ps : List Ptr) (p : Ptr) (o : Option NodePtr) → head_or (ps ++ p ∷ []) o ≡ head_or ps (Some (ptr_to p))
head_end [] p o = refl
head_end (q ∷ ps) p o = refl

head_nil : (ps : List Ptr) (o : Option NodePtr) → head_or (ps ++ []) o ≡ head_or ps o
head_nil [] o = refl
head_nil (q ∷ ps) o = refl

pub oldest_head : (o : Option NodePtr) (s : ℕ) (ns : List Placed) → oldest_or o s ns ≡ head_or (chain_of s (pairs ns) (places ns)) o
oldest_head o s [] = refl
oldest_head o s (n ∷ ns) = (elim (n.node.source == s) as (λ y. oldest_or (cond y (Some (ptr_to n.at)) o) s ns ≡ head_or (chain_of s (pairs ns) (places ns) ++ cond y (n.at ∷ []) []) o) [
  | true ↦ oldest_head (Some (ptr_to n.at)) s ns ∙ sym (head_end (chain_of s (pairs ns) (places ns)) n.at o)
  | false ↦ oldest_head o s ns ∙ sym (head_nil (chain_of s (pairs ns) (places ns)) o)
])
    ∙ ap (λ l. head_or l o) (sym (chain_end s (pairs ns) (places ns) (n.node.reader, n.node.source) n.at (even ns)))

headless : (l : List Ptr) → None ≡ head_or l None → l ≡ []
headless [] e = refl
headless (p ∷ l) e = cc

headed : (l : List Ptr) (q : NodePtr) → Some q ≡ head_or l None → IsFirst q.ptr l
headed [] q e = cc
headed (p ∷ l) q e = (l, ap (λ (z : NodePtr). z.ptr ∷ l) (sym (sym_some e)))

module _ (ns : List Placed) (readers : List (Option NodePtr)) (sources : List Ends) (s : ℕ) (e : Ends) (whole : IsWhole ns readers sources) (ss : s < length sources) (read : e ≡ slice_index_or sources s e) where
  head_of : e.first ≡ head_or (chain_of s (pairs ns) (places ns)) None
  head_of = ap (λ (z : Ends). z.first) (read ∙ get_or_default sources s e no_ends ss) ∙ (whole.3 s ss).1 ∙ oldest_head None s ns

  pub first_none : e.first ≡ None → chain_of s (pairs ns) (places ns) ≡ []
  first_none is = headless (chain_of s (pairs ns) (places ns)) (sym is ∙ head_of)

  pub first_some : (q : NodePtr) → e.first ≡ Some q → IsFirst q.ptr (chain_of s (pairs ns) (places ns))
  first_some q is = headed (chain_of s (pairs ns) (places ns)) q (sym is ∙ head_of)

nil_ne_cut : {X : Type 0} (xs : List X) (x : X) (ys : List X) → [] ≡ xs ++ x ∷ ys → ⊥
nil_ne_cut [] x ys e = cc
nil_ne_cut (z ∷ xs) x ys e = cc

end_cut : (fs xs : List Ptr) (a p : Ptr) (ys : List Ptr) → fs ++ a ∷ [] ≡ xs ++ p ∷ ys → ((ys ≡ []) × (p ≡ a)) ⊎ ((zs : List Ptr) × (ys ≡ zs ++ a ∷ []) × (fs ≡ xs ++ p ∷ zs))
end_cut [] [] a p ys e = inl (cc, cc)
end_cut [] (x ∷ xs) a p ys e = let t : [] ≡ xs ++ p ∷ ys = cc in absurd (nil_ne_cut xs p ys t)
end_cut (f ∷ fs) [] a p ys e = let t : fs ++ a ∷ [] ≡ ys = cc in let h : f ≡ p = cc in inr (fs, sym t, ap (λ z. z ∷ fs) h)
end_cut (f ∷ fs) (x ∷ xs) a p ys e = let t : fs ++ a ∷ [] ≡ xs ++ p ∷ ys = cc in let h : f ≡ x = cc in elim (end_cut fs xs a p ys t) [
  | inl u ↦ inl u
  | inr u ↦ inr (u.0, u.1, λ i. h i ∷ u.2 i)
]

append_nil : (l : List Ptr) → l ++ [] ≡ l
append_nil [] = refl
append_nil (x ∷ l) = ap (λ m. x ∷ m) (append_nil l)

away_at : (a p : Ptr) (x : Node) (ns : List Placed) → IsAway a ns → node_at ns p ≡ Some x → same_ptr a p ≡ false
away_at a p x [] away e = cc
away_at a p x (m ∷ ms) away e = (on (λ y. cond y (Some m.node) (node_at ms p) ≡ Some x → same_ptr a p ≡ false) (same_ptr m.at p)
    (λ at is. subst (λ r. same_ptr a r ≡ false) (same_ptr_eq m.at p at) away.0) (λ at is. away_at a p x ms away.1 is)) e

abbrev Chain : ℕ → List Placed → List Ptr
Chain s ns = chain_of s (pairs ns) (places ns)

chain_cons : (s : ℕ) (n : Placed) (ns : List Placed) → Chain s (n ∷ ns) ≡ Chain s ns ++ cond (n.node.source == s) (n.at ∷ []) []
chain_cons s n ns = chain_end s (pairs ns) (places ns) (n.node.reader, n.node.source) n.at (even ns)

-- the `next` of an edge of the list leads to the edge after it
next_is : (s : ℕ) (p : Ptr) (up : ℕ → Option NodePtr) (ns : List Placed) (xs ys : List Ptr) → IsApart ns → IsLinked up ns → Chain s ns ≡ xs ++ p ∷ ys → (x : Node) × (node_at ns p ≡ Some x) × (x.next ≡ head_or ys (up s))
next_is s p up [] xs ys apart linked e = absurd (nil_ne_cut xs p ys e)
next_is s p up (m ∷ ms) xs ys apart linked e =
    let up' = put_at up m.node.source (Some (ptr_to m.at)) in
    let later : (ys' : List Ptr) → Chain s ms ≡ xs ++ p ∷ ys' → (x : Node) × (node_at (m ∷ ms) p ≡ Some x) × (x.next ≡ head_or ys' (up' s)) = λ ys' c.
    let rest = next_is s p up' ms xs ys' apart.1 linked.3 c in
    (rest.0, ap (λ y. cond y (Some m.node) (node_at ms p)) (away_at m.at p rest.0 ms apart.0 rest.1) ∙ rest.1, rest.2) in
    (on (λ w. (m.node.source == s) ≡ w → Chain s ms ++ cond w (m.at ∷ []) [] ≡ xs ++ p ∷ ys → (x : Node) × (node_at (m ∷ ms) p ≡ Some x) × (x.next ≡ head_or ys (up s))) (m.node.source == s)
    (λ k k' c. elim (end_cut (Chain s ms) xs m.at p ys c) [
      | inl u ↦ (
        m.node,
        subst (λ r. node_at (m ∷ ms) r ≡ Some m.node) (sym u.1) (ap (λ y. cond y (Some m.node) (node_at ms m.at)) (same_ptr_refl m.at)),
        linked.0 ∙ ap up (eq_of m.node.source s k) ∙ ap (λ l. head_or l (up s)) (sym u.0),
      )
      | inr u ↦ let rest = later u.0 u.2 in (rest.0, rest.1, rest.2 ∙ ap (λ y. head_or u.0 (cond y (Some (ptr_to m.at)) (up s))) k ∙ sym (head_end u.0 m.at (up s)) ∙ ap (λ l. head_or l (up s)) (sym u.1))
    ])
    (λ k k' c. let rest = later ys (sym (append_nil (Chain s ms)) ∙ c) in (rest.0, rest.1, rest.2 ∙ ap (λ y. head_or ys (cond y (Some (ptr_to m.at)) (up s))) k))) refl (sym (chain_cons s m ms) ∙ e)

module _ (ns : List Placed) (readers : List (Option NodePtr)) (sources : List Ends) (p : Ptr) (whole : IsWhole ns readers sources) where
  pub is_there : (s : ℕ) (xs ys : List Ptr) → Chain s ns ≡ xs ++ p ∷ ys → IsSome (node_at ns p)
  is_there s xs ys e = let x = next_is s p (λ _. None) ns xs ys whole.0 whole.1 e in subst IsSome (sym x.1) refl

  same_next : (x : Node) → node_at ns p ≡ Some x → (s : ℕ) (xs ys : List Ptr) → Chain s ns ≡ xs ++ p ∷ ys → x.next ≡ head_or ys None
  same_next x here s xs ys e = let y = next_is s p (λ _. None) ns xs ys whole.0 whole.1 e in ap (λ (n : Node). n.next) (sym_some (sym here ∙ y.1)) ∙ y.2

  pub next_none : (x : Node) → node_at ns p ≡ Some x → x.next ≡ None → (s : ℕ) (xs ys : List Ptr) → Chain s ns ≡ xs ++ p ∷ ys → ys ≡ []
  next_none x here is s xs ys e = headless ys (sym is ∙ same_next x here s xs ys e)

  pub next_some : (x : Node) → node_at ns p ≡ Some x → (q : NodePtr) → x.next ≡ Some q → (s : ℕ) (xs ys : List Ptr) → Chain s ns ≡ xs ++ p ∷ ys → IsFirst q.ptr ys
  next_some x here q is s xs ys e = headed ys q (sym is ∙ same_next x here s xs ys e)

readers_end : (s : ℕ) (qs : List (ℕ × ℕ)) (q : ℕ × ℕ) → readers_of s (qs ++ q ∷ []) ≡ readers_of s qs ++ cond (q.1 == s) (q.0 ∷ []) []
readers_end s [] q = refl
readers_end s (z ∷ qs) q = elim (z.1 == s) as (λ y. cond y (z.0 ∷ readers_of s (qs ++ q ∷ [])) (readers_of s (qs ++ q ∷ [])) ≡ cond y (z.0 ∷ readers_of s qs) (readers_of s qs) ++ cond (q.1 == s) (q.0 ∷ []) []) [
  | true ↦ ap (λ l. z.0 ∷ l) (readers_end s qs q)
  | false ↦ readers_end s qs q
]

count_end : {X Y : Type 0} (xs : List X) (ys : List Y) (x : X) (y : Y) (b : Bool) → length xs ≡ length ys → length (xs ++ cond b (x ∷ []) []) ≡ length (ys ++ cond b (y ∷ []) [])
count_end xs ys x y true e = let f = length-append xs (x ∷ []) in let g = length-append ys (y ∷ []) in omega (arith, e, f, g)
count_end xs ys x y false e = let f = length-append xs [] in let g = length-append ys [] in omega (arith, e, f, g)

-- a source has as many places as readers
pub as_many : (s : ℕ) (ns : List Placed) → length (Chain s ns) ≡ length (readers_of s (pairs ns))
as_many s [] = refl
as_many s (n ∷ ns) = ap (λ l. length l) (chain_cons s n ns)
    ∙ count_end (Chain s ns) (readers_of s (pairs ns)) n.at n.node.reader (n.node.source == s) (as_many s ns)
    ∙ ap (λ l. length l) (sym (readers_end s (pairs ns) (n.node.reader, n.node.source)))

at_end : (rs : List ℕ) (r : ℕ) → slice_get (rs ++ r ∷ []) (length rs) ≡ Some r
at_end [] r = refl
at_end (z ∷ rs) r = at_end rs r

at_front : (rs more : List ℕ) (k : ℕ) (r : ℕ) → slice_get rs k ≡ Some r → slice_get (rs ++ more) k ≡ Some r
at_front [] more k r e = cc
at_front (z ∷ rs) more zero r e = e
at_front (z ∷ rs) more (suc k) r e = at_front rs more k r e

-- the reader of the edge at a place of the list is the one at that place of the readers
reader_is : (s : ℕ) (p : Ptr) (x : Node) (up : ℕ → Option NodePtr) (ns : List Placed) (xs ys : List Ptr) → IsApart ns → IsLinked up ns → node_at ns p ≡ Some x → Chain s ns ≡ xs ++ p ∷ ys
    → slice_get (readers_of s (pairs ns)) (length xs) ≡ Some x.reader
reader_is s p x up [] xs ys apart linked here e = cc
reader_is s p x up (m ∷ ms) xs ys apart linked here e =
    let rs = readers_of s (pairs ms) in
    let up' = put_at up m.node.source (Some (ptr_to m.at)) in
    let below : (ys' : List Ptr) → Chain s ms ≡ xs ++ p ∷ ys' → slice_get rs (length xs) ≡ Some x.reader = λ ys' c.
    let y = next_is s p up' ms xs ys' apart.1 linked.3 c in
    reader_is s p x up' ms xs ys' apart.1 linked.3 (sym (ap (λ w. cond w (Some m.node) (node_at ms p)) (away_at m.at p y.0 ms apart.0 y.1)) ∙ here) c in
    subst (λ l. slice_get l (length xs) ≡ Some x.reader) (sym (readers_end s (pairs ms) (m.node.reader, m.node.source)))
    ((on (λ w. Chain s ms ++ cond w (m.at ∷ []) [] ≡ xs ++ p ∷ ys → slice_get (rs ++ cond w (m.node.reader ∷ []) []) (length xs) ≡ Some x.reader) (m.node.source == s)
    (λ k c. elim (end_cut (Chain s ms) xs m.at p ys c) [
      | inl u ↦
          let mine : m.node ≡ x = sym_some (sym (ap (λ y. cond y (Some m.node) (node_at ms m.at)) (same_ptr_refl m.at)) ∙ subst (λ r. node_at (m ∷ ms) r ≡ Some x) u.1 here) in
          let all : Chain s ms ++ m.at ∷ [] ≡ xs ++ m.at ∷ [] = c ∙ (λ i. xs ++ u.1 i ∷ u.0 i) in
          let count = ap (λ l. length l) all in let f = length-append (Chain s ms) (m.at ∷ []) in let g = length-append xs (m.at ∷ []) in let many = as_many s ms in
          let same : length rs ≡ length xs = omega (arith, count, f, g, many) in
          subst (λ n. slice_get (rs ++ m.node.reader ∷ []) n ≡ Some x.reader) same (at_end rs m.node.reader ∙ ap (λ (n : Node). Some n.reader) mine)
      | inr u ↦ at_front rs (m.node.reader ∷ []) (length xs) x.reader (below u.0 u.2)
    ])
    (λ k c. at_front rs [] (length xs) x.reader (below ys (sym (append_nil (Chain s ms)) ∙ c)))) (sym (chain_cons s m ms) ∙ e))

pub reader_at : (ns : List Placed) (readers : List (Option NodePtr)) (sources : List Ends) (p : Ptr) (x : Node) → IsWhole ns readers sources → node_at ns p ≡ Some x → (s : ℕ) (xs ys : List Ptr) → Chain s ns ≡ xs ++ p ∷ ys
    → slice_get (readers_of s (pairs ns)) (length xs) ≡ Some x.reader
reader_at ns readers sources p x whole here s xs ys e = reader_is s p x (λ _. None) ns xs ys whole.0 whole.1 here e
