-- `take` gives the block of the node at p back.
use Rattle.std.proofs.Common.{◌≡◌, List, [], ◌∷◌, ◌++◌, refl, sym, Some, None, IsSome}
use mir.Val.{Val, vptr}
use mir.Raw.{raw as bare}
use base.Logic.{SProp, fst∗, never}
use base.Fml.{Lft, Share, ftrue, flft, fat}
use base.Fraction.{full_share}
use prog.Wp.{WpFn}
use types.Logic.{sem}
use contract.Monad.{fact}
use contract.Running.{tables}
use types.Kit.{‵, raw, ◌⊛◌, prop, ◌$◌, ◌∵◌, !, qed, move, keep, drop, use1, split, join, rewrite, regoal, fsplit, fsplit3, fjoin, fjoin3, feq_i, feq_l, suffices, frame, done}
use types.Part.{whole, sub, agg}
use types.Run.{stop, fld, of_opd, and_then, no_more, returns, enter}
use types.ByLocal.{alloc_all, pass_all, free_all, look_at, take_at, give_at, get, get_in, sets}
use denote.RattleType.{owns}
use denote.Memory.{lone}
use denote.Param.{layout}
use denote.RawPtr.{Ptr, block_ptr, null_ptr, in_a_block}
use denote.Signature.{types_at, plain}
use denote.Steps.{nothing, heard, opens, closes}
use denote.Triple.Walked.{Stays, stay_dropped, stay_ref, walk_of, ends_at, Goes-dropped, Goes-ref}
use Rattle.std.proofs.alloc.Calls.{Goes-blank}
use Rattle.std.proofs.cell.Inside.{one}
use Rattle.std.proofs.raw_atomic.Walks.{proved_at}
use Rattle.std.proofs.RcSteps.{word, word-Good}
use Rattle.std.specs.contracts.alloc.Global.{the_row as Z}
use Rattle.std.proofs.alloc.Global.TheLaws as global_laws
use Rattle.std.specs.contracts.impls.GlobalAllocator.TheImpl.{ghosts}
use Rattle.edge_lists.specs.Heap.{node_owns, nodes_own, node_at, placed, without}
use Rattle.edge_lists.specs.contracts.node.Node.{the_row as R}
use Rattle.edge_lists.specs.contracts.node.NodePtr.{the_row as P}
use Rattle.edge_lists.specs.contracts.heap.Heap.{the_row as H}
use Rattle.edge_lists.proofs.BlockValues.{both, Loose, loose_good, loose_in, loose_out}
use Rattle.edge_lists.proofs.Memory.{word_had, word_made, knows, says_both, found, taken, fresh}
use Rattle.edge_lists.specs.contracts.heap.Heap.take as f
use Rattle.edge_lists.proofs.heap.Heap.take.Statement.{statement}
use Rattle.edge_lists.proofs.heap.Heap.take.Code as code

abbrev stayed : Stays f.ended.signature.params f.ended.kept
stayed = (stay_ref (0 ∷ []) tt (plain (λ _. H)), (stay_dropped (plain (λ _. Z)) f.ended.kept.1.0, (stay_dropped (plain (λ _. P)) f.ended.kept.1.1.0, tt)))

pub take_spec : {M : Type 1} → statement M
take_spec 𝓤 𝓛 𝓜 𝓡 wired =
    let c = f.clauses 𝓛 𝓜.mem 𝓡.returns in let 𝓣 = tables 𝓤 𝓛.H 𝓜 𝓡 𝓡.env in let fn = code.function in let ZL = global_laws.the_row_laws in
    proved_at 𝓛 f.ended stayed c 𝓜 𝓡 (Goes-ref 𝓛 1 0 tt (plain (λ _. H)), (Goes-dropped 𝓛 1 (plain (λ _. Z)) f.ended.kept.1.0 (λ κs x f. refl), (Goes-dropped 𝓛 1 (plain (λ _. P)) f.ended.kept.1.1.0 (λ κs x f. refl), tt)))
    f.Key.name fn (code.unfolded 𝓤 𝓛.H 𝓜 𝓡 wired) (λ z are.
    let Post : Val → SProp 𝓤 = (walk_of 𝓛 f.ended stayed c).post z in
    let κ : Lft = z.0.0.0 in let q : Share = z.0.1.0 in let b = z.0.3.0.ref_ptr.0 in let o = z.0.3.0.ref_ptr.1 in let h = z.0.3.0.now in let a = z.0.3.1.0 in let p = z.0.3.1.1.0.ptr in
    let got = one (layout Z) z.0.4.1.0 ((ZL.lawful 𝓛).typed a z.0.4.1.0 are.1.0) in let hv : Val = got.0 in let fits = got.2 in
    let new : H.Denot = record h { nodes = without h.nodes p } in
    qed 𝓛 (((‵ (flft κ q) ⊛ ‵ ftrue) ⊛ ‵ (owns (types_at f.ended.signature.params z.0.0) z.0.3 z.0.4)) ∷ raw (fact 𝓤 (IsSome (node_at h.nodes p))) ∷ []) ∵
    move ! (1 ∷ []) $ heard ! (IsSome (node_at h.nodes p)) (λ asked. let here = found (node_at h.nodes p) asked in let n = here.0 in
    split ! $ move ! (1 ∷ []) $ fsplit ! $ fsplit3 ! $ feq_l ! (λ e0. move ! (2 ∷ []) $ fsplit ! $ rewrite ! 0 (λ (us : List Val). ‵ (Z.own_val a us)) got.1 refl $
    move ! (1 ∷ []) $ fsplit ! $ word_had ! p z.0.4.1.1.0 (λ e2. move ! (4 ∷ []) $ split ! $ keep ! (4 ∷ 5 ∷ 0 ∷ 3 ∷ []) $
    -- [the value of self; its borrow; the token; the handle]
    regoal ! (λ (us : List Val). prop (WpFn 𝓤 𝓛.H 𝓣.C 𝓣.Λ fn us Post)) (λ i. e0 i ++ (got.1 i ++ (e2 i ++ []))) refl $
    enter ! 𝓣.C 𝓣.Λ fn (vptr b o ∷ hv ∷ word p ∷ []) Post $ alloc_all ! (λ l. pass_all ! refl ((tt, tt), (fits, (word-Good [] p, tt))) $
    opens ! tt H {h = h} b o (λ vs. move ! (1 ∷ []) $ fsplit ! $ move ! (1 ∷ []) $
    use1 𝓛 (‵ (node_owns h.alloc p n) ⊛ ‵ (nodes_own h.alloc (without h.nodes p))) (taken 𝓛 h.alloc p h.nodes n here.1) $ split ! $
    in_a_block ! p (λ s. node_owns h.alloc s n) (fst∗ 𝓤 (never 𝓤) (sem 𝓛 (ghosts.dealloc_token h.alloc (bare (lone R.mir)) null_ptr))) (λ pb po ep.
    take_at ! 3 $ rewrite ! 0 (λ (s : Ptr). ‵ (fat full_share (layout P) (l 3) 0 (word s))) ep refl $ give_at ! 3 $
    -- [the node; the rest; the mark; the heap's cell; the open borrow; obs; auth; the handle]
    let made = loose_good R Z ZL ghosts pb po hv fits in let r : (Loose R Z ZL ghosts).Denot = record { at = block_ptr pb po; alloc = a; value = n } in
    sets ! (agg ! (and_then ! (get_in ! (fld ! refl (stop !)) (sub ! 0 refl (whole !))) (and_then ! (get ! refl) (no_more !)))) refl made $
    move ! (0 ∷ 7 ∷ []) $ loose_in R Z ZL ghosts ! pb po hv a n $
    move ! (2 ∷ 1 ∷ []) $ fjoin ! $ move ! (2 ∷ 0 ∷ 3 ∷ 4 ∷ 5 ∷ []) $ closes ! tt H new vs b o $
    returns ! (look_at ! 0 refl) $ free_all ! refl $
    suffices ! _ (ends_at 𝓛 f.ended stayed c z (both (vptr pb po) hv) r (new, (tt, (tt, tt))) (tt, (tt, (tt, tt)))) $ says_both ! here.1 refl $
    keep ! (0 ∷ 1 ∷ 2 ∷ 3 ∷ []) $
    nothing ! $ move ! (3 ∷ 0 ∷ []) $ join ! $ frame ! $ feq_i ! (List Val) z.0.4.0 (vptr b o ∷ []) e0 $ fjoin3 ! $ nothing ! $ nothing ! $ fjoin ! $ nothing ! $ fjoin ! $ move ! (1 ∷ 0 ∷ []) $ fjoin ! $ done !)))))))
