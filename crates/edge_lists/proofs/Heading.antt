-- A head more.
use Rattle.std.proofs.Common.{◌≡◌, ℕ, zero, suc, ◌+◌, ◌<◌, ◌==◌, Bool, true, false, cond, List, [], ◌∷◌, ◌++◌, length, slice_index_or, replicate, Some, None, Option, refl, sym, ap, subst, ◌∙◌, true≢false, append_assoc, arith}
use Rattle.std.proofs.Math.ListN.{get_or-eq_default}
use Rattle.std.proofs.lemmas.List.{length-append, append-nil}
use Rattle.edge_lists.specs.declared.node.Node.{Node}
use Rattle.edge_lists.specs.declared.node.NodePtr.{NodePtr}
use Rattle.edge_lists.specs.declared.lists.Ends.{Ends}
use Rattle.edge_lists.specs.Heap.{Placed}
use Rattle.edge_lists.specs.Links.{ptr_to, newest, source_of, reader_of}
use Rattle.edge_lists.specs.Ends.{no_ends}
use Rattle.edge_lists.specs.Edges.{oldest_or, IsWithin, IsWhole}
use Rattle.edge_lists.proofs.Numbers.{eq_of, eq_refl}
use Rattle.edge_lists.proofs.Unlinking.{on}
use Rattle.edge_lists.proofs.Dropping.{oldest_none}

pad : {X : Type 0} (xs : List X) (t : ℕ) (d : X) → slice_index_or (xs ++ d ∷ []) t d ≡ slice_index_or xs t d
pad [] zero d = refl
pad [] (suc t) d = refl
pad (x ∷ xs) zero d = refl
pad (x ∷ xs) (suc t) d = pad xs t d

no_reader : (k j : ℕ) (ns : List Placed) → IsWithin k j ns → newest reader_of j ns ≡ None
no_reader k j [] w = refl
no_reader k j (n ∷ ns) w = on (λ y. cond y (Some (ptr_to n.at)) (newest reader_of j ns) ≡ None) (n.node.reader == j)
    (λ at. let e = eq_of n.node.reader j at in let b = w.1 in absurd (let z : ⊥ = omega (arith, e, b) in z)) (λ at. no_reader k j ns w.2)

wider : (k j : ℕ) (ns : List Placed) → IsWithin k j ns → IsWithin k (j + 1) ns
wider k j [] w = tt
wider k j (n ∷ ns) w = let b = w.1 in (w.0, omega (arith, b), wider k j ns w.2)

module _ (ns : List Placed) (readers : List (Option NodePtr)) (sources : List Ends) (whole : IsWhole ns readers sources) where
  abbrev more : List (Option NodePtr)
  more = readers ++ None ∷ []

  count : length more ≡ length readers + 1
  count = length-append readers (None ∷ [])

  readers_are : (t : ℕ) → t < length more → slice_index_or more t None ≡ newest reader_of t ns
  readers_are t within = pad readers t None ∙ (on (λ y. slice_index_or readers t None ≡ newest reader_of t ns) (t == length readers)
      (λ at. let e : t ≡ length readers = eq_of t (length readers) at in
      subst (λ u. slice_index_or readers u None ≡ newest reader_of u ns) (sym e) (get_or-eq_default readers None (omega arith) ∙ sym (no_reader (length sources) (length readers) ns whole.4)))
      (λ at. let ne : (t ≡ length readers → ⊥) = λ e. true≢false (sym (eq_refl t) ∙ ap (λ u. t == u) e ∙ at) in let c = count in whole.2 t (omega (arith, within, c, ne))))

  pub whole_more : IsWhole ns more sources
  whole_more = (whole.0, whole.1, readers_are, whole.3, subst (λ j. IsWithin (length sources) j ns) (sym count) (wider (length sources) (length readers) ns whole.4))

no_source : (k j : ℕ) (ns : List Placed) → IsWithin k j ns → newest source_of k ns ≡ None
no_source k j [] w = refl
no_source k j (n ∷ ns) w = on (λ y. cond y (Some (ptr_to n.at)) (newest source_of k ns) ≡ None) (n.node.source == k)
    (λ at. let e = eq_of n.node.source k at in let b = w.0 in absurd (let z : ⊥ = omega (arith, e, b) in z)) (λ at. no_source k j ns w.2)

wider_sources : (k j : ℕ) (ns : List Placed) → IsWithin k j ns → IsWithin (k + 1) j ns
wider_sources k j [] w = tt
wider_sources k j (n ∷ ns) w = let b = w.0 in (omega (arith, b), w.1, wider_sources k j ns w.2)

module _ (ns : List Placed) (readers : List (Option NodePtr)) (sources : List Ends) (whole : IsWhole ns readers sources) where
  abbrev more_sources : List Ends
  more_sources = sources ++ no_ends ∷ []

  count_sources : length more_sources ≡ length sources + 1
  count_sources = length-append sources (no_ends ∷ [])

  abbrev Ended : ℕ → Ends → Type 0
  Ended t e = (e.last ≡ newest source_of t ns) × (e.first ≡ oldest_or None t ns)

  sources_are : (t : ℕ) → t < length more_sources → Ended t (slice_index_or more_sources t no_ends)
  sources_are t within = subst (Ended t) (sym (pad sources t no_ends)) (on (λ y. Ended t (slice_index_or sources t no_ends)) (t == length sources)
      (λ at. let e : t ≡ length sources = eq_of t (length sources) at in let none = no_source (length sources) (length readers) ns whole.4 in
      subst (λ u. Ended u (slice_index_or sources u no_ends)) (sym e) (subst (Ended (length sources)) (sym (get_or-eq_default sources no_ends (omega arith))) (sym none, sym (oldest_none None (length sources) ns none))))
      (λ at. let ne : (t ≡ length sources → ⊥) = λ e. true≢false (sym (eq_refl t) ∙ ap (λ u. t == u) e ∙ at) in let c = count_sources in whole.3 t (omega (arith, within, c, ne))))

  pub whole_more_sources : IsWhole ns readers more_sources
  whole_more_sources = (whole.0, whole.1, whole.2, sources_are, subst (λ k. IsWithin k (length readers) ns) (sym count_sources) (wider_sources (length sources) (length readers) ns whole.4))

-- so many heads more
pub more_readers : (k : ℕ) (ns : List Placed) (readers : List (Option NodePtr)) (sources : List Ends) → IsWhole ns readers sources → IsWhole ns (readers ++ replicate k None) sources
more_readers zero ns readers sources whole = subst (λ l. IsWhole ns l sources) (sym (append-nil readers)) whole
more_readers (suc k) ns readers sources whole = subst (λ l. IsWhole ns l sources) (append_assoc readers (None ∷ []) (replicate k None))
    (more_readers k ns (readers ++ None ∷ []) sources (whole_more ns readers sources whole))

pub more_sources_too : (k : ℕ) (ns : List Placed) (readers : List (Option NodePtr)) (sources : List Ends) → IsWhole ns readers sources → IsWhole ns readers (sources ++ replicate k no_ends)
more_sources_too zero ns readers sources whole = subst (IsWhole ns readers) (sym (append-nil sources)) whole
more_sources_too (suc k) ns readers sources whole = subst (IsWhole ns readers) (append_assoc sources (no_ends ∷ []) (replicate k no_ends))
    (more_sources_too k ns readers (sources ++ no_ends ∷ []) (whole_more_sources ns readers sources whole))

-- both at once, as the calls say it
pub more_heads : (j k : ℕ) (ns : List Placed) (readers more : List (Option NodePtr)) (sources others : List Ends) → IsWhole ns readers sources
    → more ≡ readers ++ replicate j None → others ≡ sources ++ replicate k no_ends → IsWhole ns more others
more_heads j k ns readers more sources others whole e f = subst (λ (w : List (Option NodePtr) × List Ends). IsWhole ns w.0 w.1) (λ i. (sym e i, sym f i))
    (more_sources_too k ns (readers ++ replicate j None) sources (more_readers j ns readers sources whole))
