-- What `unlink_newest` keeps.
use Rattle.std.proofs.Common.{◌≡◌, ℕ, ◌+◌, ◌<◌, ◌==◌, Bool, true, false, cond, List, [], ◌∷◌, length, slice_index_or, slice_set, Some, None, Option, IsSome, IfSome, refl, sym, ap, subst, ◌∙◌, length-set, true≢false, ◌⊎◌, inl, inr}
use Rattle.std.proofs.lemmas.List.{get_or-set_same, get_or-set_other, get_or_default}
use denote.RawPtr.{Ptr}
use Rattle.edge_lists.specs.declared.node.Node.{Node}
use Rattle.edge_lists.specs.declared.node.NodePtr.{NodePtr}
use Rattle.edge_lists.specs.declared.lists.Ends.{Ends}
use Rattle.edge_lists.specs.Heap.{Placed, placed, same_ptr, node_at, without}
use Rattle.edge_lists.specs.Links.{ptr_to, newest, source_of, reader_of, IsLinked, with_next, with_prev, IsAway, IsApart}
use Rattle.edge_lists.specs.Ends.{no_ends, parted}
use Rattle.edge_lists.specs.Edges.{pairs, oldest_or, IsWithin, others, mine, IsWhole}
use Rattle.edge_lists.proofs.Apart.{same_ptr_refl}
use Rattle.edge_lists.proofs.Numbers.{eq_of, eq_refl}
use Rattle.edge_lists.proofs.Links.{newest_away, newest_next, newest_found, apart_next, pairs_next, oldest_next, within_next}
use Rattle.edge_lists.proofs.Linking.{by_case}
use Rattle.edge_lists.proofs.Unlinking.{on, leads, clash, sym_some, newest_prev, newest_without, other_leads, was_newest, unlinked, taken_out}
use Rattle.edge_lists.proofs.Dropping.{apart_prev, apart_without, pairs_prev, oldest_prev, found_next, prev_found, next_or_up, next_some, below_newest, oldest_without, oldest_other, within_prev, within_without, within_at, others_same, mine_less, mine_none}

newest_key : (key : Node → ℕ) (k : ℕ) (q : NodePtr) (x : Node) (ns : List Placed) → IsApart ns → newest key k ns ≡ Some q → node_at ns q.ptr ≡ Some x → key x ≡ k
newest_key key k q x [] apart e here = cc
newest_key key k q x (m ∷ ms) apart e here = (on (λ w. (key m.node == k) ≡ w → cond w (Some (ptr_to m.at)) (newest key k ms) ≡ Some q → key x ≡ k) (key m.node == k)
    (λ at at' is. let same : ptr_to m.at ≡ q = sym_some is in
    let mine : m.node ≡ x = sym_some (sym (ap (λ y. cond y (Some m.node) (node_at ms m.at)) (same_ptr_refl m.at)) ∙ subst (λ (r : NodePtr). node_at (m ∷ ms) r.ptr ≡ Some x) (sym same) here) in
    subst (λ (n : Node). key n ≡ k) mine (eq_of (key m.node) k at))
    (λ at at' is. newest_key key k q x ms apart.1 is (sym (ap (λ y. cond y (Some m.node) (node_at ms q.ptr)) (newest_away key m.at k q ms apart.0 is)) ∙ here))) refl e

module _ (ns : List Placed) (readers : List (Option NodePtr)) (sources : List Ends) (r : ℕ) (p : NodePtr) (x : Node) (whole : IsWhole ns readers sources) (rs : r < length readers)
    (head : newest reader_of r ns ≡ Some p) (here : node_at ns p.ptr ≡ Some x) where
  abbrev W : List Placed
  W = without ns p.ptr

  abbrev V : List Placed
  V = with_next W x.prev x.next

  abbrev out : List Placed
  out = taken_out p.ptr x ns

  is_r : x.reader ≡ r
  is_r = newest_key reader_of r p x ns whole.0 head here

  led : leads (newest reader_of x.reader ns) p.ptr ≡ true
  led = ap (λ o. leads o p.ptr) (subst (λ j. newest reader_of j ns ≡ Some p) (sym is_r) head) ∙ same_ptr_refl p.ptr

  pub prev_there : IfSome x.prev (λ q. IsSome (node_at W q.ptr))
  prev_there = by_case x.prev (λ q e. prev_found p.ptr x (λ _. None) ns whole.1 here q e)

  pub next_there : IfSome x.next (λ q. IsSome (node_at V q.ptr))
  next_there = by_case x.next (λ q e. found_next q.ptr W x.prev x.next (elim (next_or_up p.ptr x (λ _. None) ns whole.1 here q e) [ inl a ↦ cc | inr h ↦ h ]))

  pub in_range : x.source < length sources
  in_range = within_at (length sources) (length readers) p.ptr x ns whole.4 here

  source_newest : (t : ℕ) → newest source_of t out ≡ newest source_of t W
  source_newest t = newest_prev source_of (λ n y. refl) t V x.next x.prev ∙ newest_next source_of (λ n y. refl) t W x.prev x.next

  reader_newest : (t : ℕ) → newest reader_of t out ≡ newest reader_of t W
  reader_newest t = newest_prev reader_of (λ n y. refl) t V x.next x.prev ∙ newest_next reader_of (λ n y. refl) t W x.prev x.next

  source_oldest : (t : ℕ) → oldest_or None t out ≡ oldest_or None t W
  source_oldest t = oldest_prev None t V x.next x.prev ∙ oldest_next None t W x.prev x.next

  readers_are : (t : ℕ) → t < length (slice_set readers r x.below) → slice_index_or (slice_set readers r x.below) t None ≡ newest reader_of t out
  readers_are t within = on (λ (w : Bool). slice_index_or (slice_set readers r x.below) t None ≡ newest reader_of t out) (r == t)
      (λ at. subst (λ u. slice_index_or (slice_set readers r x.below) u None ≡ newest reader_of u out) (eq_of r t at)
      (get_or-set_same readers r x.below None rs ∙ sym (subst (λ j. newest reader_of j W ≡ x.below) is_r (below_newest p.ptr x (λ _. None) ns whole.1 here led)) ∙ sym (reader_newest r)))
      (λ at. get_or-set_other readers r t x.below None (λ e. true≢false (sym (eq_refl r) ∙ ap (λ u. r == u) (sym e) ∙ at))
      ∙ whole.2 t (subst (λ n. t < n) (length-set readers r x.below) within)
      ∙ sym (newest_without reader_of p.ptr t ns (other_leads reader_of p.ptr t x ns whole.0 here (subst (λ j. (j == t) ≡ false) (sym is_r) at))) ∙ sym (reader_newest t))

  abbrev s : ℕ
  s = x.source

  abbrev old : Ends
  old = slice_index_or sources s no_ends

  abbrev new : Ends
  new = parted old x.prev x.next

  last_is : new.last ≡ newest source_of s out
  last_is = on (λ (w : Bool). new.last ≡ newest source_of s out) (leads (newest source_of s ns) p.ptr)
      (λ first. let was = was_newest p.ptr x (λ _. None) ns whole.1 here first in
      ap (λ (o : Option NodePtr). elim o as (λ _. Option NodePtr) [ None ↦ x.prev | Some q ↦ old.last ]) was.1 ∙ sym was.0 ∙ sym (source_newest s))
      (λ later. (elim x.next as (λ o. (o ≡ None → ⊥) → (elim o as (λ _. Option NodePtr) [ None ↦ x.prev | Some q ↦ old.last ]) ≡ newest source_of s out) [
        | None ↦ λ h. absurd (h refl)
        | Some q ↦ λ h. (whole.3 s in_range).0 ∙ sym (newest_without source_of p.ptr s ns later) ∙ sym (source_newest s)
      ]) (next_some p.ptr x (λ _. None) ns whole.1 here later))

  first_is : new.first ≡ oldest_or None s out
  first_is = ap (λ (o : Option NodePtr). elim x.prev as (λ _. Option NodePtr) [ None ↦ x.next | Some q ↦ o ]) (whole.3 s in_range).1 ∙ sym (oldest_without p.ptr x (λ _. None) ns whole.1 here) ∙ sym (source_oldest s)

  sources_are : (t : ℕ) → t < length (slice_set sources s new) → ((slice_index_or (slice_set sources s new) t no_ends).last ≡ newest source_of t out) × ((slice_index_or (slice_set sources s new) t no_ends).first ≡ oldest_or None t out)
  sources_are t within = on (λ (w : Bool). ((slice_index_or (slice_set sources s new) t no_ends).last ≡ newest source_of t out) × ((slice_index_or (slice_set sources s new) t no_ends).first ≡ oldest_or None t out)) (s == t)
      (λ at. subst (λ u. ((slice_index_or (slice_set sources s new) u no_ends).last ≡ newest source_of u out) × ((slice_index_or (slice_set sources s new) u no_ends).first ≡ oldest_or None u out)) (eq_of s t at)
      (subst (λ (e : Ends). (e.last ≡ newest source_of s out) × (e.first ≡ oldest_or None s out)) (sym (get_or-set_same sources s new no_ends in_range)) (last_is, first_is)))
      (λ at. let was = whole.3 t (subst (λ n. t < n) (length-set sources s new) within) in
      subst (λ (e : Ends). (e.last ≡ newest source_of t out) × (e.first ≡ oldest_or None t out)) (sym (get_or-set_other sources s t new no_ends (λ e. true≢false (sym (eq_refl s) ∙ ap (λ u. s == u) (sym e) ∙ at)))) (
        was.0 ∙ sym (newest_without source_of p.ptr t ns (other_leads source_of p.ptr t x ns whole.0 here at)) ∙ sym (source_newest t),
        was.1 ∙ sym (oldest_other p.ptr x None t ns here at) ∙ sym (source_oldest t),
      ))

  pub whole_after : IsWhole out (slice_set readers r x.below) (slice_set sources s new)
  whole_after = (
    apart_prev V x.next x.prev (apart_next W x.prev x.next (apart_without p.ptr ns whole.0)),
    unlinked p.ptr x (λ _. None) ns whole.0 whole.1 here led (λ j q e. cc),
    readers_are,
    sources_are,
    subst (λ (k : ℕ × ℕ). IsWithin k.0 k.1 out) (λ i. (sym (length-set sources s new) i, sym (length-set readers r x.below) i)) (within_prev (length sources) (length readers) V x.next x.prev (within_next (length sources) (length readers) W x.prev x.next (within_without (length sources) (length readers) p.ptr ns whole.4))),
  )

  pairs_out : pairs out ≡ pairs W
  pairs_out = pairs_prev V x.next x.prev ∙ pairs_next W x.prev x.next

  pub kept : others r (pairs out) ≡ others r (pairs ns)
  kept = ap (others r) pairs_out ∙ subst (λ j. others j (pairs W) ≡ others j (pairs ns)) is_r (others_same p.ptr x ns here)

  pub less : mine r (pairs ns) ≡ mine r (pairs out) + 1
  less = subst (λ j. mine j (pairs ns) ≡ mine j (pairs W) + 1) is_r (mine_less p.ptr x ns here) ∙ ap (λ l. mine r l + 1) (sym pairs_out)

pub head_is : (ns : List Placed) (readers : List (Option NodePtr)) (sources : List Ends) (r : ℕ) (o : Option NodePtr) (p : NodePtr) → IsWhole ns readers sources → r < length readers → o ≡ slice_index_or readers r o → o ≡ Some p → newest reader_of r ns ≡ Some p
head_is ns readers sources r o p whole rs read is = sym (whole.2 r rs) ∙ get_or_default readers r None o rs ∙ sym read ∙ is

pub none_is : (ns : List Placed) (readers : List (Option NodePtr)) (sources : List Ends) (r : ℕ) (o : Option NodePtr) → IsWhole ns readers sources → r < length readers → o ≡ slice_index_or readers r o → o ≡ None → mine r (pairs ns) ≡ 0
none_is ns readers sources r o whole rs read is = mine_none r ns (sym (whole.2 r rs) ∙ get_or_default readers r None o rs ∙ sym read ∙ is)

pub head_there : (r : ℕ) (p : NodePtr) (ns : List Placed) → newest reader_of r ns ≡ Some p → IsSome (node_at ns p.ptr)
head_there r p ns e = newest_found reader_of r p ns e

-- the same, as the calls say it
module _ (ns ns1 : List Placed) (readers : List (Option NodePtr)) (sources : List Ends) (r : ℕ) (p : NodePtr) (x : Node) (whole : IsWhole ns readers sources) (rs : r < length readers)
    (head : newest reader_of r ns ≡ Some p) (here : node_at ns p.ptr ≡ Some x) (took : ns1 ≡ without ns p.ptr) where
  pub prev_at : IfSome x.prev (λ q. IsSome (node_at ns1 q.ptr))
  prev_at = subst (λ l. IfSome x.prev (λ q. IsSome (node_at l q.ptr))) (sym took) (prev_there ns readers sources r p x whole rs head here)

  pub next_at : (ns2 : List Placed) → ns2 ≡ with_next ns1 x.prev x.next → IfSome x.next (λ q. IsSome (node_at ns2 q.ptr))
  next_at ns2 e = subst (λ l. IfSome x.next (λ q. IsSome (node_at l q.ptr))) (sym (e ∙ ap (λ l. with_next l x.prev x.next) took)) (next_there ns readers sources r p x whole rs head here)

  pub out_is : (ns2 ns3 : List Placed) → ns2 ≡ with_next ns1 x.prev x.next → ns3 ≡ with_prev ns2 x.next x.prev → ns3 ≡ taken_out p.ptr x ns
  out_is ns2 ns3 e f = f ∙ ap (λ l. with_prev l x.next x.prev) (e ∙ ap (λ l. with_next l x.prev x.next) took)

  pub whole_at : (ns2 ns3 : List Placed) → ns2 ≡ with_next ns1 x.prev x.next → ns3 ≡ with_prev ns2 x.next x.prev → (ends' f : Ends) → ends' ≡ slice_index_or sources x.source ends' → f ≡ parted ends' x.prev x.next
      → IsWhole ns3 (slice_set readers r x.below) (slice_set sources x.source f)
  whole_at ns2 ns3 e f ends' g read is = subst (λ (w : List Placed × Ends). IsWhole w.0 (slice_set readers r x.below) (slice_set sources x.source w.1))
      (λ i. (sym (out_is ns2 ns3 e f) i, sym (is ∙ ap (λ z. parted z x.prev x.next) (read ∙ get_or_default sources x.source ends' no_ends (in_range ns readers sources r p x whole rs head here))) i))
      (whole_after ns readers sources r p x whole rs head here)

  pub kept_at : (ns2 ns3 : List Placed) → ns2 ≡ with_next ns1 x.prev x.next → ns3 ≡ with_prev ns2 x.next x.prev → others r (pairs ns3) ≡ others r (pairs ns)
  kept_at ns2 ns3 e f = ap (λ l. others r (pairs l)) (out_is ns2 ns3 e f) ∙ kept ns readers sources r p x whole rs head here

  pub less_at : (ns2 ns3 : List Placed) → ns2 ≡ with_next ns1 x.prev x.next → ns3 ≡ with_prev ns2 x.next x.prev → mine r (pairs ns) ≡ mine r (pairs ns3) + 1
  less_at ns2 ns3 e f = less ns readers sources r p x whole rs head here ∙ ap (λ l. mine r (pairs l) + 1) (sym (out_is ns2 ns3 e f))
