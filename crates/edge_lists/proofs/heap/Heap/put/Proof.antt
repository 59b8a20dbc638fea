-- `put` makes the block a node.
use Rattle.std.proofs.Common.{◌≡◌, List, [], ◌∷◌, ◌++◌, refl, sym, Some, None, IsSome}
use mir.Val.{Val, vptr}
use mir.Raw.{raw as bare}
use base.Logic.{SProp, fst∗, never}
use base.Fml.{Lft, Share, ftrue, flft, fat}
use base.Fraction.{full_share}
use prog.Wp.{WpFn}
use types.Logic.{sem}
use contract.Monad.{fact}
use contract.Running.{tables}
use types.Kit.{‵, raw, ◌⊛◌, prop, ◌$◌, ◌∵◌, !, qed, move, keep, drop, use1, split, join, rewrite, regoal, fsplit, fsplit3, fjoin, fjoin3, feq_i, feq_l, suffices, frame, done}
use types.Part.{whole, sub, agg}
use types.Run.{stop, fld, of_opd, and_then, no_more, returns, enter}
use types.ByLocal.{alloc_all, pass_all, free_all, look_at, take_at, give_at, get, get_in, sets}
use denote.RattleType.{owns}
use denote.Memory.{lone}
use denote.Param.{layout}
use denote.RawPtr.{Ptr, block_ptr, null_ptr, in_a_block}
use denote.Signature.{types_at, plain}
use denote.Steps.{nothing, heard, opens, closes}
use denote.Triple.Walked.{Stays, stay_dropped, stay_ref, walk_of, ends_at, Goes-dropped, Goes-ref}
use Rattle.std.proofs.alloc.Calls.{Goes-blank}
use Rattle.std.proofs.cell.Inside.{one}
use Rattle.std.proofs.raw_atomic.Walks.{proved_at}
use Rattle.std.proofs.RcSteps.{word, word-Good}
use Rattle.std.specs.contracts.alloc.Global.{the_row as Z}
use Rattle.std.proofs.alloc.Global.TheLaws as global_laws
use Rattle.std.specs.contracts.impls.GlobalAllocator.TheImpl.{ghosts}
use Rattle.edge_lists.specs.Heap.{node_owns, nodes_own, node_at, placed, without}
use Rattle.edge_lists.specs.contracts.node.Node.{the_row as R}
use Rattle.edge_lists.specs.contracts.node.NodePtr.{the_row as P}
use Rattle.edge_lists.specs.contracts.heap.Heap.{the_row as H}
use Rattle.edge_lists.proofs.BlockValues.{both, Loose, loose_good, loose_in, loose_out}
use Rattle.edge_lists.proofs.Memory.{word_had, word_made, knows, says_both, found, taken, fresh}
use Rattle.edge_lists.specs.contracts.heap.Heap.put as f
use Rattle.edge_lists.proofs.heap.Heap.put.Statement.{statement}
use Rattle.edge_lists.proofs.heap.Heap.put.Code as code

abbrev stayed : Stays f.ended.signature.params f.ended.kept
stayed = (stay_ref (0 ∷ []) tt (plain (λ _. H)), (stay_dropped (plain (λ _. Loose R Z global_laws.the_row_laws ghosts)) f.ended.kept.1.0, tt))

pub put_spec : {M : Type 1} → statement M
put_spec 𝓤 𝓛 𝓜 𝓡 wired =
    let c = f.clauses 𝓛 𝓜.mem 𝓡.returns in let 𝓣 = tables 𝓤 𝓛.H 𝓜 𝓡 𝓡.env in let fn = code.function in let ZL = global_laws.the_row_laws in
    proved_at 𝓛 f.ended stayed c 𝓜 𝓡 (Goes-ref 𝓛 1 0 tt (plain (λ _. H)), (Goes-blank 𝓛 1 (plain (λ _. Loose R Z ZL ghosts)) f.ended.kept.1.0 (λ κs x f. tt), tt))
    f.Key.name fn (code.unfolded 𝓤 𝓛.H 𝓜 𝓡 wired) (λ z are.
    let Post : Val → SProp 𝓤 = (walk_of 𝓛 f.ended stayed c).post z in
    let κ : Lft = z.0.0.0 in let q : Share = z.0.1.0 in let b = z.0.3.0.ref_ptr.0 in let o = z.0.3.0.ref_ptr.1 in let h = z.0.3.0.now in let d = z.0.3.1.0 in
    qed 𝓛 (((‵ (flft κ q) ⊛ ‵ ftrue) ⊛ ‵ (owns (types_at f.ended.signature.params z.0.0) z.0.3 z.0.4)) ∷ raw ((c z.0.0 z.0.3).requires z.1) ∷ []) ∵
    split ! $ move ! (1 ∷ []) $ fsplit ! $ fsplit3 ! $ feq_l ! (λ e0. move ! (2 ∷ []) $ fsplit ! $ loose_out R Z ZL ghosts ! d z.0.4.1.0 (λ pb po hv ep ws fits.
    move ! (5 ∷ []) $ split ! $ keep ! (5 ∷ 6 ∷ 0 ∷ 2 ∷ []) $
    -- [the value of self; its borrow; the token; the block]
    regoal ! (λ (us : List Val). prop (WpFn 𝓤 𝓛.H 𝓣.C 𝓣.Λ fn us Post)) (λ i. e0 i ++ (ws i ++ [])) refl $
    enter ! 𝓣.C 𝓣.Λ fn (vptr b o ∷ both (vptr pb po) hv ∷ []) Post $ alloc_all ! (λ l. pass_all ! refl ((tt, tt), (loose_good R Z ZL ghosts pb po hv fits, tt)) $
    opens ! tt H {h = h} b o (λ vs. move ! (1 ∷ []) $ fsplit ! $ move ! (6 ∷ 1 ∷ []) $
    let at : Ptr = block_ptr pb po in
    knows ! (node_at h.nodes at ≡ None) (fresh 𝓛 𝓜 h.alloc at d.value h.nodes) (λ free.
    let new : H.Denot = record h { nodes = placed at d.value ∷ h.nodes } in let r : P.Denot = record { ptr = at } in
    fjoin ! $ move ! (1 ∷ 0 ∷ []) $ fjoin ! $ move ! (1 ∷ 0 ∷ []) $ closes ! tt H new vs b o $
    sets ! (of_opd ! (get_in ! (fld ! refl (stop !)) (sub ! 0 refl (whole !)))) refl (tt, tt) $ sets ! (agg ! (and_then ! (get ! refl) (no_more !))) refl (word-Good [] at) $
    returns ! (look_at ! 0 refl) $ free_all ! refl $ keep ! (0 ∷ 1 ∷ 2 ∷ []) $
    suffices ! _ (ends_at 𝓛 f.ended stayed c z (word at) r (new, (tt, tt)) (tt, (tt, tt))) $ says_both ! free refl $
    word_made ! at $ move ! (1 ∷ 2 ∷ 3 ∷ 0 ∷ []) $
    nothing ! $ move ! (3 ∷ 0 ∷ []) $ join ! $ frame ! $ feq_i ! (List Val) z.0.4.0 (vptr b o ∷ []) e0 $ fjoin3 ! $ nothing ! $ nothing ! $ fjoin ! $ move ! (1 ∷ 0 ∷ []) $ fjoin ! $ done !))))))
