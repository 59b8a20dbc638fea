-- What `link` keeps.
use Rattle.std.proofs.Common.{◌≡◌, ℕ, ◌<◌, ◌==◌, Bool, true, false, cond, List, [], ◌∷◌, ◌++◌, length, slice_index_or, slice_set, Some, None, Option, IsSome, IfSome, refl, sym, ap, subst, ◌∙◌, length-set, true≢false}
use Rattle.std.proofs.lemmas.List.{get_or-set_same, get_or-set_other, get_or_default}
use denote.RawPtr.{Ptr}
use Rattle.edge_lists.specs.declared.node.Node.{Node}
use Rattle.edge_lists.specs.declared.node.NodePtr.{NodePtr}
use Rattle.edge_lists.specs.declared.lists.Ends.{Ends}
use Rattle.edge_lists.specs.Heap.{Placed, placed, same_ptr, node_at, set_at}
use Rattle.edge_lists.specs.Links.{ptr_to, newest, source_of, reader_of, put_at, IsLinked, with_next, IsAway, IsApart}
use Rattle.edge_lists.specs.Ends.{or_else, followed, no_ends}
use Rattle.edge_lists.specs.Edges.{pairs, oldest_or, IsWithin, IsWhole}
use Rattle.edge_lists.proofs.Numbers.{eq_of, eq_refl}
use Rattle.edge_lists.proofs.Links.{within_next, retarget, newest_away, newest_next, newest_found, skips, away_of, away_next, apart_next, set_front, pairs_next, oldest_next, oldest_split}

pub by_case : {X : Type 0} {P : X → Type 0} (o : Option X) → ((x : X) → o ≡ Some x → P x) → IfSome o P
by_case (Some x) h = h x refl
by_case None h = tt

module _ (ns : List Placed) (readers : List (Option NodePtr)) (sources : List Ends) (r s : ℕ) (p : NodePtr) (b : Node) (whole : IsWhole ns readers sources) (rs : r < length readers) (ss : s < length sources) (free : node_at ns p.ptr ≡ None) where
  abbrev ends : Ends
  ends = slice_index_or sources s no_ends

  abbrev pub made : Node
  made = record { reader = r; source = s; below = slice_index_or readers r None; prev = ends.last; next = None }

  abbrev after : List Placed
  after = with_next ns ends.last (Some p)

  away : IsAway p.ptr ns
  away = away_of p.ptr ns free

  last_is : ends.last ≡ newest source_of s ns
  last_is = (whole.3 s ss).0

  -- the node is in front, and the one that was last leads to it
  pub nodes_are : with_next (set_at (placed p.ptr b ∷ ns) p.ptr made) ends.last (Some p) ≡ placed p.ptr made ∷ after
  nodes_are = ap (λ l. with_next l ends.last (Some p)) (set_front p.ptr b made ns) ∙ skips (placed p.ptr made) ns ends.last (Some p) (λ q e. newest_away source_of p.ptr s q ns away (sym last_is ∙ e))

  in_front : (q : NodePtr) → IsSome (node_at ns q.ptr) → IsSome (node_at (set_at (placed p.ptr b ∷ ns) p.ptr made) q.ptr)
  in_front q h = subst (λ l. IsSome (node_at l q.ptr)) (sym (set_front p.ptr b made ns)) (elim (same_ptr p.ptr q.ptr) as (λ y. IsSome (cond y (Some made) (node_at ns q.ptr))) [ true ↦ refl | false ↦ h ])

  -- the last is there
  pub last_found : IfSome ends.last (λ q. IsSome (node_at (set_at (placed p.ptr b ∷ ns) p.ptr made) q.ptr))
  last_found = by_case ends.last (λ q e. in_front q (newest_found source_of s q ns (sym last_is ∙ e)))

  linked : IsLinked (λ _. None) (placed p.ptr made ∷ after)
  linked = (
    refl,
    last_is ∙ sym (newest_next source_of (λ m x. refl) s ns ends.last (Some p)),
    whole.2 r rs ∙ sym (newest_next reader_of (λ m x. refl) r ns ends.last (Some p)),
    subst (λ o. IsLinked (put_at (λ _. None) s (Some p)) (with_next ns o (Some p))) (sym last_is) (retarget s (Some p) (λ _. None) ns whole.0 whole.1),
  )

  readers_are : (t : ℕ) → t < length (slice_set readers r (Some p)) → slice_index_or (slice_set readers r (Some p)) t None ≡ newest reader_of t (placed p.ptr made ∷ after)
  readers_are t within = (elim (r == t) as (λ y. (r == t) ≡ y → slice_index_or (slice_set readers r (Some p)) t None ≡ cond y (Some p) (newest reader_of t after)) [
    | true ↦ λ at. subst (λ u. slice_index_or (slice_set readers r (Some p)) u None ≡ Some p) (eq_of r t at) (get_or-set_same readers r (Some p) None rs)
    | false ↦ λ at. get_or-set_other readers r t (Some p) None (λ e. true≢false (sym (eq_refl r) ∙ ap (λ u. r == u) (sym e) ∙ at))
        ∙ whole.2 t (subst (λ n. t < n) (length-set readers r (Some p)) within) ∙ sym (newest_next reader_of (λ m x. refl) t ns ends.last (Some p))
  ]) refl

  abbrev Ended : ℕ → Ends → Type 0
  Ended t e = (e.last ≡ newest source_of t (placed p.ptr made ∷ after)) × (e.first ≡ oldest_or None t (placed p.ptr made ∷ after))

  sources_are : (t : ℕ) → t < length (slice_set sources s (followed ends p)) → Ended t (slice_index_or (slice_set sources s (followed ends p)) t no_ends)
  sources_are t within = (elim (s == t) as (λ y. (s == t) ≡ y → ((slice_index_or (slice_set sources s (followed ends p)) t no_ends).last ≡ cond y (Some p) (newest source_of t after)) × ((slice_index_or (slice_set sources s (followed ends p)) t no_ends).first ≡ oldest_or (cond y (Some p) None) t after)) [
    | true ↦ λ at. subst (λ u. ((slice_index_or (slice_set sources s (followed ends p)) u no_ends).last ≡ Some p) × ((slice_index_or (slice_set sources s (followed ends p)) u no_ends).first ≡ oldest_or (Some p) u after)) (eq_of s t at)
        (subst (λ (e : Ends). (e.last ≡ Some p) × (e.first ≡ oldest_or (Some p) s after)) (sym (get_or-set_same sources s (followed ends p) no_ends ss))
        (refl, ap (λ o. or_else o (Some p)) (whole.3 s ss).1 ∙ sym (oldest_split (Some p) s ns) ∙ sym (oldest_next (Some p) s ns ends.last (Some p))))
    | false ↦ λ at. let old = whole.3 t (subst (λ n. t < n) (length-set sources s (followed ends p)) within) in
        subst (λ (e : Ends). (e.last ≡ newest source_of t after) × (e.first ≡ oldest_or None t after)) (sym (get_or-set_other sources s t (followed ends p) no_ends (λ e. true≢false (sym (eq_refl s) ∙ ap (λ u. s == u) (sym e) ∙ at))))
        (old.0 ∙ sym (newest_next source_of (λ m x. refl) t ns ends.last (Some p)), old.1 ∙ sym (oldest_next None t ns ends.last (Some p)))
  ]) refl

  pub whole_is : IsWhole (placed p.ptr made ∷ after) (slice_set readers r (Some p)) (slice_set sources s (followed ends p))
  whole_is = (
    (away_next p.ptr ns ends.last (Some p) away, apart_next ns ends.last (Some p) whole.0),
    linked,
    readers_are,
    sources_are,
    subst (λ (k : ℕ × ℕ). (s < k.0) × (r < k.1) × IsWithin k.0 k.1 after) (λ i. (sym (length-set sources s (followed ends p)) i, sym (length-set readers r (Some p)) i)) (ss, rs, within_next (length sources) (length readers) ns ends.last (Some p) whole.4),
  )

  pub pairs_are : pairs (placed p.ptr made ∷ after) ≡ pairs ns ++ (r, s) ∷ []
  pairs_are = ap (λ l. l ++ (r, s) ∷ []) (pairs_next ns ends.last (Some p))

-- the same, as the calls of `link` say it
module _ (ns ns1 ns2 : List Placed) (readers : List (Option NodePtr)) (sources : List Ends) (r s : ℕ) (p : NodePtr) (b : Node) (below : Option NodePtr) (ends' : Ends) (whole : IsWhole ns readers sources)
    (rs : r < length readers) (ss : s < length sources) (free : node_at ns p.ptr ≡ None) (put : ns1 ≡ placed p.ptr b ∷ ns) where
  abbrev X : Option NodePtr → Ends → Node
  X w e = record { reader = r; source = s; below = w; prev = e.last; next = None }

  both : below ≡ slice_index_or readers r below → ends' ≡ slice_index_or sources s ends' → ◌≡◌ {A = Option NodePtr × Ends} (below, ends') (slice_index_or readers r None, slice_index_or sources s no_ends)
  both is es = λ i. ((is ∙ get_or_default readers r below None rs) i, (es ∙ get_or_default sources s ends' no_ends ss) i)

  pub came_found : below ≡ slice_index_or readers r below → ends' ≡ slice_index_or sources s ends' → ns2 ≡ set_at ns1 p.ptr (X below ends') → IfSome ends'.last (λ q. IsSome (node_at ns2 q.ptr))
  came_found is es set = subst (λ (w : List Placed × Ends). IfSome w.1.last (λ q. IsSome (node_at w.0 q.ptr)))
      (λ i. (sym (set ∙ (λ j. set_at (put j) p.ptr (X (both is es j).0 (both is es j).1))) i, (sym (both is es) i).1)) (last_found ns readers sources r s p b whole rs ss free)

  pub came_is : below ≡ slice_index_or readers r below → ends' ≡ slice_index_or sources s ends' → ns2 ≡ set_at ns1 p.ptr (X below ends') → (ns3 : List Placed) → ns3 ≡ with_next ns2 ends'.last (Some p)
      → ns3 ≡ placed p.ptr (made ns readers sources r s p b whole rs ss free) ∷ after ns readers sources r s p b whole rs ss free
  came_is is es set ns3 next = next ∙ (λ j. with_next ((set ∙ (λ k. set_at (put k) p.ptr (X (both is es k).0 (both is es k).1))) j) (both is es j).1.last (Some p)) ∙ nodes_are ns readers sources r s p b whole rs ss free

  pub came_whole : below ≡ slice_index_or readers r below → ends' ≡ slice_index_or sources s ends' → ns2 ≡ set_at ns1 p.ptr (X below ends') → (ns3 : List Placed) → ns3 ≡ with_next ns2 ends'.last (Some p)
      → (f : Ends) → f ≡ followed ends' p → IsWhole ns3 (slice_set readers r (Some p)) (slice_set sources s f)
  came_whole is es set ns3 next f fs = subst (λ (w : List Placed × Ends). IsWhole w.0 (slice_set readers r (Some p)) (slice_set sources s w.1))
      (λ i. (sym (came_is is es set ns3 next) i, sym (fs ∙ (λ j. followed (both is es j).1 p)) i)) (whole_is ns readers sources r s p b whole rs ss free)

  pub came_pairs : below ≡ slice_index_or readers r below → ends' ≡ slice_index_or sources s ends' → ns2 ≡ set_at ns1 p.ptr (X below ends') → (ns3 : List Placed) → ns3 ≡ with_next ns2 ends'.last (Some p)
      → pairs ns3 ≡ pairs ns ++ (r, s) ∷ []
  came_pairs is es set ns3 next = ap pairs (came_is is es set ns3 next) ∙ pairs_are ns readers sources r s p b whole rs ss free
