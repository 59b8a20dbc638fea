-- The walk of `of`: the box's value is opened, `into_raw_with_allocator` is called, and the pair that it answers becomes the block.
use Rattle.std.proofs.Common.{◌≡◌, List, [], ◌∷◌, ◌++◌, refl, sym, ap, ◌∙◌, subst}
use mir.Syntax.{a_type, dcons, dnil}
use mir.Raw.{raw as bare}
use mir.Val.{Val, vptr, vstruct, of_list}
use mir.MapTy.{inst_fn}
use base.Logic.{SProp, ent, emp, never, id⊢, fst∗}
use base.Fml.{ftrue, fsep, flft}
use prog.Wp.{WpFn}
use types.Logic.{sem}
use types.Kit.{‵, raw, ◌⊛◌, some, later, ◌$◌, ◌∵◌, !, qed, by, move, keep, drop, split, split3, join, fsplit, fjoin, fpick, pick, suffices, use0, use1, await, rewrite, feq_l}
use types.Run.{stop, fld, of_opd, no_more, and_then, returns, enter}
use types.ByLocal.{alloc_all, pass_all, free_all, look_at, get, get_in, sets, lands_as}
use types.Part.{agg, sub, whole}
use contract.Monad.{fact, fact_i}
use contract.Running.{tables}
use denote.Exit.{no}
use denote.RattleType.{RattleType, owns}
use denote.Signature.{types_at, plain}
use denote.Builtin.{RawPtr}
use denote.RawPtr.{Ptr, block_ptr, null_ptr, ptr_val, in_a_block}
use denote.Steps.{nothing, only, heard}
use denote.Param.{param, layout, bounded}
use denote.Param.Laws.{param_laws}
use denote.Struct.Tuple.{Tuple}
use denote.Triple.Spec.{triple_of}
use denote.Triple.Call.{calls_at}
use denote.Triple.Table.{framed}
use denote.Triple.Walked.{Stays, stay_dropped, walk_of}
use Rattle.std.proofs.alloc.Calls.{Goes-blank, handle_tells}
use Rattle.std.specs.Box.Ownership.{box_owns}
use Rattle.std.proofs.BoxSteps.Form as box
use Rattle.std.proofs.BoxSteps.Steps.{box_out, box_in}
use Rattle.std.proofs.raw_atomic.Walks.{proved_at, leaves}
use Rattle.std.specs.contracts.boxed.Box.into_raw_with_allocator as callee
use Rattle.std.proofs.boxed.Box.into_raw_with_allocator.Met.{met}
use Rattle.edge_lists.proofs.BlockValues.{both, loose_good, loose_in}
use Rattle.edge_lists.specs.contracts.loose.Loose.of as f
use Rattle.edge_lists.proofs.loose.Loose.of.Statement.{statement}
use Rattle.edge_lists.proofs.loose.Loose.of.Code as code

pub of_spec : {M : Type 1} → statement M
of_spec 𝓤 𝓛 𝓜 𝓡 wired T A LT LA g da dt dd allocator value_drops allocator_drops =
    -- the value's row, the allocator's, and the box
    let R : RattleType = param 0 T in
    let Z : RattleType = param 1 A in
    let LZ = param_laws 1 A LA in
    let B : box.Bx = record { row = T; laws = LT; al = record { row = A; laws = LA; g = g; d = da; drops = dd } } in
    -- the function, its contract and its table of instances
    let 𝓣 = tables 𝓤 𝓛.H 𝓜 𝓡 𝓡.env in
    let types = a_type ∷ a_type ∷ [] in
    let dicts = dcons da (dcons dt (dcons dd dnil)) in
    let fn = inst_fn (bounded types (T, (A, tt)) dicts) code.function in
    let ended = f.ended T A g da dt dd in
    let c = f.clauses T A g da dt dd 𝓛 𝓜.mem 𝓡.returns in
    let stayed : Stays ended.signature.params ended.kept = (stay_dropped (plain (λ _. box.B B)) no, tt) in
    proved_at 𝓛 ended stayed c 𝓜 𝓡 (Goes-blank 𝓛 2 (plain (λ _. box.B B)) no (λ κs x f. tt), tt)
    (f.Key.name (bounded types (T, (A, tt)) dicts)) fn (code.unfolded 𝓤 𝓛.H 𝓜 𝓡 wired (T, (A, tt)) da dt dd) (λ z are.
    let κs = z.0.0 in let qs = z.0.1 in let given = z.0.3.0 in let a = given.alloc in
    let Post : Val → SProp 𝓤 = (walk_of 𝓛 ended stayed c).post z in
    let Runs : List Val → SProp 𝓤 = λ ws. WpFn 𝓤 𝓛.H 𝓣.C 𝓣.Λ fn ws Post in
    let tokens = ‵ (flft κs.0 qs.0) ⊛ ‵ (flft κs.1.0 qs.1.0) ⊛ ‵ ftrue in
    qed 𝓛 ((tokens ⊛ ‵ (owns (types_at ended.signature.params κs) z.0.3 z.0.4)) ∷ raw ((c κs z.0.3).requires z.1) ∷ []) ∵
    split ! $ move ! (1 ∷ []) $ fsplit !
    $ box_out B ! given z.0.4.0 (λ b o h leads words fits. box_in B ! given b o given.value leads refl
    -- the callee's contract at this box
    $ let w : Val = box.word B h b o in
    let good = loose_good R Z LZ g b o h fits in
    let k = triple_of 𝓛 (callee.signature T A g da dd dt) (callee.spec T A g da dd dt 𝓛 𝓜.mem 𝓡.returns) in
    let y : k.Ghost = ((κs, qs, tt, (given, tt), (w ∷ [], tt)), tt) in
    let Pair = Tuple (RawPtr ∷ Z ∷ []) in
    fjoin ! $ move ! (1 ∷ 0 ∷ []) $ join ! $ join ! $ use1 𝓛 (raw (k.pre y)) (id⊢ 𝓤 _)
    $ suffices ! (Runs (w ∷ [])) (subst (λ (us : List Val). ent 𝓤 (Runs (w ∷ [])) (Runs us)) (sym (λ i. words i ++ [])) (id⊢ 𝓤 (Runs (w ∷ []))))
    $ enter ! 𝓣.C 𝓣.Λ fn (w ∷ []) Post $ alloc_all ! (λ l. pass_all ! refl (good, tt) $ sets ! (of_opd ! (get ! refl)) refl good
    $ calls_at ! (framed 𝓤 𝓛.H 𝓜 𝓣) k
    (met 𝓤 𝓛 𝓜 𝓡 (code.calls-std::boxed::Box::into_raw_with_allocator 𝓡.env wired) T A LT LA g da dd dt allocator allocator_drops value_drops) y
    (and_then ! (get ! refl) (no_more !)) (λ u.
    -- [what it answers: the pair, its allocator, and the block]
    use1 𝓛 (later (some (λ (r : Ptr × A.Denot). (tokens ⊛ ‵ (Pair.own_val r (u ∷ [])))
    ⊛ some (λ (_ : (Unit {0} × (Unit {0} × Unit {0})) × Unit {0}). ‵ (fsep (fsep ftrue (fsep ftrue ftrue)) ftrue)
    ⊛ (raw (fact 𝓤 (r.1 ≡ a)) ⊛ ‵ (box_owns (g.dealloc_token a) R r.0 given.value)))))) (id⊢ 𝓤 _)
    $ await ! tt $ pick ! (λ r. split ! $ move ! (1 ∷ []) $ pick ! (λ _. split3 ! $ drop ! $ heard ! (r.1 ≡ a) (λ same.
    in_a_block ! r.0 (λ p. box_owns (g.dealloc_token a) R p given.value) (fst∗ 𝓤 (never 𝓤) (sem 𝓛 (g.dealloc_token a (bare (layout T)) null_ptr))) (λ pb po at.
    move ! (1 ∷ []) $ split ! $ move ! (1 ∷ []) $ fpick ! (λ vss. fsplit ! $ feq_l ! (λ pair. fsplit ! $ feq_l ! (λ pointer. fsplit !
    $ rewrite ! 0 (λ (s : A.Denot). ‵ (A.own_val s vss.1.0)) same refl
    $ handle_tells B.al ! a vss.1.0 (λ h' handle fits'.
    let made = loose_good R Z LZ g pb po h' fits' in
    let lands = ap only (pair ∙ (λ j. vstruct (of_list ((pointer ∙ ap (λ (p : Ptr). ptr_val p ∷ []) at) j ++ (handle j ++ []))) ∷ [])) in
    lands_as ! lands refl made
    -- [the two fields are taken out, and the block is made of them]
    $ sets ! (of_opd ! (get_in ! (fld ! refl (stop !)) (sub ! 0 refl (whole !)))) refl (tt, tt)
    $ sets ! (of_opd ! (get_in ! (fld ! refl (stop !)) (sub ! 1 refl (whole !)))) refl fits'
    $ sets ! (of_opd ! (get ! refl)) refl fits'
    $ sets ! (agg ! (and_then ! (get ! refl) (and_then ! (get ! refl) (no_more !)))) refl made
    $ move ! (3 ∷ 0 ∷ []) $ loose_in R Z LZ g ! pb po h' a given.value
    $ use0 𝓛 (raw (fact 𝓤 (given.value ≡ given.value))) (fact_i 𝓤 (given.value ≡ given.value) (emp 𝓤) refl) $ nothing ! $ nothing ! $ fjoin !
    $ returns ! (look_at ! 0 refl) $ free_all ! refl $ keep ! (4 ∷ 0 ∷ 2 ∷ 1 ∷ [])
    $ by ! (leaves 𝓛 ended stayed c z (both (vptr pb po) h') (record { at = block_ptr pb po; alloc = a; value = given.value }) ((tt, (tt, tt)), tt) (tt, tt))))))))))))))
