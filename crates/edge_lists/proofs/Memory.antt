-- What the walks share: the heap's value, which takes no bytes, a node's cell, and the heap cut at a node.
use mathlib.Core.Path.{◌≡◌, refl, sym, ap, subst, ◌∙◌}
use Prim.Native.Nat.{ℕ}
use native.Mathlib.Omega.{arith}
use mathlib.Core.Bool.{Bool, true, false}
use mathlib.Core.List.{List, [], ◌∷◌, ◌++◌}
use seplogic.Ra.Ura.{Ura}
use base.Logic.{SProp, ent, emp, sep, never, never_e, via, fst∗, snd∗, id⊢}
use base.Fraction.{full_share}
use base.Fml.{Fml, Lft, ftrue, fat, froom}
use mir.Syntax.{Ty}
use mir.Val.{Val, vstruct, vcons, vnil, of_list}
use prog.Model.{Model}
use types.Logic.{Logic, sem}
use types.Kit.{Item, Goal, Seq, Step, step, mean, prop, ‵, raw, some, ◌⊛◌, ◌$◌, ◌∵◌, !, qed, by, move, keep, use0, use1, use2, pick, split, frame, fsplit, fjoin, fpick, fpack, feq_i, feq_l, drop, rewrite, done}
use denote.Steps.{nothing}
use contract.Monad.{fact, fact_i, fact_use}
use denote.RattleType.{RattleType, Valss}
use denote.Memory.{part_at}
use denote.Param.{layout}
use denote.RawPtr.{Ptr, RawPtr, block_ptr, null_ptr, ptr_val, lies_at}
use denote.Shadow.{makes_shadow}
use denote.Struct.Lending.{lent_at}
use denote.Struct.Struct.{Struct, within}
use denote.Struct.Owning.{shape}
use borrow.Table.OneValue.{part_in, part_out}
use Rattle.std.proofs.Common.{Some, None, Option, IsSome, cond}
use Rattle.std.specs.declared.alloc.Global.{Global}
use Rattle.edge_lists.specs.Heap.{Placed, placed, node_owns, nodes_own, nodes_lent, same_ptr, node_at, set_at, without}
use Rattle.edge_lists.specs.declared.node.Node.{Node}
use Rattle.edge_lists.specs.contracts.node.Node.{the_row}
use Rattle.edge_lists.specs.contracts.heap.Heap as heap
use Rattle.std.proofs.RcSteps.{word}
use Rattle.edge_lists.proofs.Apart.{same_ptr_eq}

-- the heap's own field, which takes no bytes
abbrev pub Mark : RattleType
Mark = Struct (shape heap.the_type)

abbrev pub mark : Val
mark = vstruct (vcons (vstruct vnil) vnil)

pub mark_made : {M : Type 1} {𝓤 : Ura M} (𝓛 : Logic 𝓤) → ent 𝓤 (emp 𝓤) (sem 𝓛 ((Mark).own_val (tt, tt) (mark ∷ [])))
mark_made 𝓛 = makes_shadow 𝓛 ((Mark).own_val (tt, tt) (mark ∷ [])) (λ vss. (tt, ((λ uss. (tt, tt)), tt))) ((vstruct vnil ∷ [], tt), (refl, ((tt, (refl, tt)), tt)))

abbrev Word : RattleType
Word = Struct (record { name = []; args = []; types = []; fields = RawPtr ∷ [] })

module _ {M : Type 1} {𝓤 : Ura M} {𝓛 : Logic 𝓤} {K : Type 0} {Γ : List (Item 𝓤)} {G : Goal 𝓤 𝓛.H} where
  -- a `NodePtr` is one pointer
  pub word_had : K → (c : Ptr) (vs : List Val) → (vs ≡ word c ∷ [] → Seq K 𝓛 Γ G) → Seq K 𝓛 (‵ (Word.own_val (c, tt) vs) ∷ Γ) G
  word_had t c vs k = fpick t (λ vss. fsplit t $ feq_l t (λ ev. fsplit t $ feq_l t (λ e. drop t $ k (subst (λ (ws : List Val). vs ≡ vstruct (of_list (ws ++ [])) ∷ []) e ev))))

  pub word_made : K → (c : Ptr) → Step K 𝓛 (‵ (Word.own_val (c, tt) (word c ∷ [])) ∷ Γ) G Γ G
  word_made t c = step (λ s.
      nothing t $ feq_i t (List Val) (ptr_val c ∷ []) (ptr_val c ∷ []) refl $ fjoin t $ feq_i t (List Val) (word c ∷ []) (word c ∷ []) refl $ fjoin t $
      fpack t (Valss (RawPtr ∷ [])) (within (record { name = []; args = []; types = []; fields = RawPtr ∷ [] }) (c, tt) (word c ∷ [])) (ptr_val c ∷ [], tt) $ s)

  -- a fact that two entries show is learned, and they stay
  pub knows : K → {i j : Item 𝓤} (φ : Type 0) → ent 𝓤 (sep 𝓤 (mean 𝓛 i) (mean 𝓛 j)) (fact 𝓤 φ) → (φ → Seq K 𝓛 (i ∷ j ∷ Γ) G) → Seq K 𝓛 (i ∷ j ∷ Γ) G
  knows t {i} {j} φ h k =
      let shown : Seq K 𝓛 (i ∷ j ∷ Γ) (prop (fact 𝓤 φ)) = use2 𝓛 (raw (fact 𝓤 φ)) h $ keep t (0 ∷ []) $ done t in
      record { prf = fact_use 𝓤 φ shown.prf (λ x. (k x).prf) }

module _ {M : Type 1} {𝓤 : Ura M} {𝓛 : Logic 𝓤} {K : Type 0} {Γ : List (Item 𝓤)} where
  -- an `ensures` of two facts
  pub says_both : K → {φ ψ : Type 0} {P : SProp 𝓤} → φ → ψ → Step K 𝓛 Γ (prop P) Γ (prop (sep 𝓤 P (sep 𝓤 (fact 𝓤 φ) (fact 𝓤 ψ))))
  says_both t {φ} {ψ} {P} x y = step (λ s. record {
    prf = via 𝓤 P s.prf (qed 𝓛 (raw P ∷ []) {P = sep 𝓤 P (sep 𝓤 (fact 𝓤 φ) (fact 𝓤 ψ))} (
        frame ! $ use0 𝓛 (raw (fact 𝓤 ψ)) (fact_i 𝓤 ψ (emp 𝓤) y) $ use0 𝓛 (raw (fact 𝓤 φ)) (fact_i 𝓤 φ (emp 𝓤) x) $ done !));
  })

pub found : (o : Option Node) → IsSome o → (n : Node) × (o ≡ Some n)
found (Some n) t = (n, refl)
found None t = absurd (cc t)

module _ {M : Type 1} {𝓤 : Ura M} (𝓛 : Logic 𝓤) (a : Global) (p : Ptr) where
  abbrev Own : List Placed → SProp 𝓤
  Own ns = sem 𝓛 (nodes_own a ns)

  abbrev One : Ptr → Node → SProp 𝓤
  One q n = sem 𝓛 (node_owns a q n)

  pub taken : (ns : List Placed) (n : Node) → node_at ns p ≡ Some n → ent 𝓤 (Own ns) (sep 𝓤 (One p n) (Own (without ns p)))
  taken [] n e = cc
  taken (m ∷ ms) n e = (elim (same_ptr m.at p) as (λ y. same_ptr m.at p ≡ y → cond y (Some m.node) (node_at ms p) ≡ Some n → ent 𝓤 (sep 𝓤 (One m.at m.node) (Own ms)) (sep 𝓤 (One p n) (Own (cond y ms (m ∷ without ms p))))) [
    | true ↦ λ at found. let same : m.node ≡ n = cc in
        subst (λ (w : Ptr × Node). ent 𝓤 (sep 𝓤 (One m.at m.node) (Own ms)) (sep 𝓤 (One w.0 w.1) (Own ms))) (λ i. (same_ptr_eq m.at p at i, same i)) (id⊢ 𝓤 _)
    | false ↦ λ at found. qed 𝓛 (‵ (node_owns a m.at m.node) ∷ ‵ (nodes_own a ms) ∷ []) ∵ move ! (1 ∷ []) $
        use1 𝓛 (‵ (node_owns a p n) ⊛ ‵ (nodes_own a (without ms p))) (taken ms n found) $ split ! $ move ! (2 ∷ 1 ∷ []) $ fjoin ! $ move ! (1 ∷ []) $ done !
  ]) refl e

  pub given : (ns : List Placed) (n x : Node) → node_at ns p ≡ Some n → ent 𝓤 (sep 𝓤 (One p x) (Own (without ns p))) (Own (set_at ns p x))
  given [] n x e = cc
  given (m ∷ ms) n x e = (elim (same_ptr m.at p) as (λ y. same_ptr m.at p ≡ y → cond y (Some m.node) (node_at ms p) ≡ Some n → ent 𝓤 (sep 𝓤 (One p x) (Own (cond y ms (m ∷ without ms p)))) (Own (cond y (placed m.at x ∷ ms) (m ∷ set_at ms p x)))) [
    | true ↦ λ at found. subst (λ (q : Ptr). ent 𝓤 (sep 𝓤 (One p x) (Own ms)) (sep 𝓤 (One q x) (Own ms))) (sym (same_ptr_eq m.at p at)) (id⊢ 𝓤 _)
    | false ↦ λ at found. qed 𝓛 (‵ (node_owns a p x) ∷ ‵ (nodes_own a (m ∷ without ms p)) ∷ []) ∵ move ! (1 ∷ []) $ fsplit ! $ move ! (2 ∷ 1 ∷ []) $
        use2 𝓛 (‵ (nodes_own a (set_at ms p x))) (given ms n x found) $ move ! (1 ∷ 0 ∷ []) $ fjoin ! $ done !
  ]) refl e

  pub seen : (κ : Lft) (ns : List Placed) (n : Node) → node_at ns p ≡ Some n → ent 𝓤 (sem 𝓛 (nodes_lent ns κ)) (sem 𝓛 (lent_at the_row p n κ))
  seen κ [] n e = cc
  seen κ (m ∷ ms) n e = (elim (same_ptr m.at p) as (λ y. same_ptr m.at p ≡ y → cond y (Some m.node) (node_at ms p) ≡ Some n → ent 𝓤 (sem 𝓛 (nodes_lent (m ∷ ms) κ)) (sem 𝓛 (lent_at the_row p n κ))) [
    | true ↦ λ at found. let same : m.node ≡ n = cc in
        subst (λ (w : Ptr × Node). ent 𝓤 (sem 𝓛 (nodes_lent (m ∷ ms) κ)) (sem 𝓛 (lent_at the_row w.0 w.1 κ))) (λ i. (same_ptr_eq m.at p at i, same i)) (fst∗ 𝓤 (sem 𝓛 (lent_at the_row m.at m.node κ)) (sem 𝓛 (nodes_lent ms κ)))
    | false ↦ λ at found. via 𝓤 _ (snd∗ 𝓤 (sem 𝓛 (lent_at the_row m.at m.node κ)) (sem 𝓛 (nodes_lent ms κ))) (seen κ ms n found)
  ]) refl e

module _ {M : Type 1} {𝓤 : Ura M} (𝓛 : Logic 𝓤) (𝓜 : Model 𝓤 𝓛.H) (a : Global) (p : Ptr) (x : Node) where
  -- two nodes do not lie at one place
  clash : (q : Ptr) (n m : Node) → ent 𝓤 (sep 𝓤 (sem 𝓛 (lies_at the_row full_share q n)) (sem 𝓛 (lies_at the_row full_share q m))) (never 𝓤)
  clash (block_ptr b o) n m =
      let τ : Ty = layout the_row in
      qed 𝓛 (‵ (part_at the_row full_share n b o) ∷ ‵ (part_at the_row full_share m b o) ∷ []) ∵
      use1 𝓛 (some (λ (v : Val). ‵ (fat full_share τ b o v) ⊛ ‵ ((the_row).own_val n (v ∷ [])))) (part_out 𝓛 the_row refl full_share n b o) $ pick ! (λ v. split ! $
      use1 𝓛 (‵ (froom τ b o)) (𝓛.laws.at_room τ b o v) $ move ! (2 ∷ []) $
      use1 𝓛 (some (λ (w : Val). ‵ (fat full_share τ b o w) ⊛ ‵ ((the_row).own_val m (w ∷ [])))) (part_out 𝓛 the_row refl full_share m b o) $ pick ! (λ w. split ! $ keep ! (2 ∷ 0 ∷ []) $
      by ! (𝓜.room_at τ τ b o o o full_share w (omega arith, omega arith) (omega arith, omega arith))))
  clash null_ptr n m = fst∗ 𝓤 (never 𝓤) (never 𝓤)

  pub fresh : (ns : List Placed) → ent 𝓤 (sep 𝓤 (sem 𝓛 (node_owns a p x)) (sem 𝓛 (nodes_own a ns))) (fact 𝓤 (node_at ns p ≡ None))
  fresh [] = fact_i 𝓤 _ _ refl
  fresh (m ∷ ms) = (elim (same_ptr m.at p) as (λ y. same_ptr m.at p ≡ y → ent 𝓤 (sep 𝓤 (sem 𝓛 (node_owns a p x)) (sem 𝓛 (nodes_own a (m ∷ ms)))) (fact 𝓤 (cond y (Some m.node) (node_at ms p) ≡ None))) [
    | true ↦ λ at. qed 𝓛 (‵ (node_owns a p x) ∷ ‵ (nodes_own a (m ∷ ms)) ∷ []) ∵ fsplit ! $ move ! (2 ∷ []) $ fsplit ! $ fsplit ! $ keep ! (0 ∷ 3 ∷ []) $
        rewrite ! 0 (λ (q : Ptr). ‵ (lies_at the_row full_share q m.node)) (same_ptr_eq m.at p at) refl $ use2 𝓛 (raw (never 𝓤)) (clash p m.node x) $ by ! (never_e 𝓤 _)
    | false ↦ λ at. qed 𝓛 (‵ (node_owns a p x) ∷ ‵ (nodes_own a (m ∷ ms)) ∷ []) ∵ move ! (1 ∷ []) $ fsplit ! $ keep ! (2 ∷ 1 ∷ []) $ by ! (fresh ms)
  ]) refl
