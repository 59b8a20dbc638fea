-- How often an id stands among ids, and in the table beside them.
use Rattle.std.proofs.Common.{◌≡◌, ℕ, ◌+◌, min, Bool, true, false, cond, List, [], ◌∷◌, ◌++◌, Some, unwrap_or, ap, sym, ◌∙◌, arith, refl}
use Rattle.std.specs.Bool.{Decides}
use Rattle.std.specs.Map.{lookup}
use Rattle.identity_path.specs.declared.step.Step.{Step}
use Rattle.identity_path.specs.Order.{same_path, same_path_decides}
use Rattle.sv_value.specs.declared.value.Value.{Value}
use Rattle.value_calls.specs.Same.{same, same_decides}
use Rattle.body_means.specs.Each.{again}
use Rattle.body_means.specs.Elements.{narrow}
use Rattle.body_nodes.specs.Seen.{key_of, counted_at}

-- one more at the end
again_more : (id v : Value) (ids : List Value) → again id (ids ++ v ∷ []) ≡ cond (same id v) (again id ids + 1) (again id ids)
unfolding again
again_more id v [] = refl
again_more id v (u ∷ ids) = ap (λ n. cond (same id u) (n + 1) n) (again_more id v ids) ∙ swap (same id u) (same id v) (again id ids)
  where
    swap : (a b : Bool) (n : ℕ) → cond a (cond b (n + 1) n + 1) (cond b (n + 1) n) ≡ cond b (cond a (n + 1) n + 1) (cond a (n + 1) n)
    swap true true n = refl
    swap true false n = refl
    swap false true n = refl
    swap false false n = refl

both_decide : {P Q : Type 0} (a b : Bool) → Decides a P → Decides b Q → (P → Q) → (Q → P) → a ≡ b
both_decide true true d e f g = refl
both_decide true false d e f g = absurd (let h : false ≡ true = e.1 (f (d.0 refl)) in cc)
both_decide false true d e f g = absurd (let h : false ≡ true = d.1 (g (e.0 refl)) in cc)
both_decide false false d e f g = refl

one_id : (v id : Value) → key_of v ≡ key_of id → id ≡ v
one_id v id h = cc

one_key : (v id : Value) → id ≡ v → key_of v ≡ key_of id
one_key v id h = ap key_of (sym h)

-- two ids have one key where they are equal
keys_alike : (v id : Value) → same_path (key_of v) (key_of id) ≡ same id v
keys_alike v id = both_decide _ _ (same_path_decides (key_of v) (key_of id)) (same_decides id v) (one_id v id) (one_key v id)

narrow_more : (n : ℕ) → min (narrow n + 1) 4294967295 ≡ narrow (n + 1)
narrow_more n = omega arith

-- the table after one more id
pub counted_more : (ids : List Value) (id : Value) (old new : List (List Step × ℕ)) (count : ℕ)
    → ((q : Value) → counted_at old (key_of q) ≡ narrow (again q ids)) → count ≡ counted_at old (key_of id)
    → ((q : List Step) → lookup (same_path q) new ≡ cond (same_path (key_of id) q) (Some (min (count + 1) 4294967295)) (lookup (same_path q) old))
    → (q : Value) → counted_at new (key_of q) ≡ narrow (again q (ids ++ id ∷ []))
counted_more ids id old new count counted is put q =
    ap (λ o. unwrap_or o 0) (put (key_of q) ∙ ap (λ b. cond b (Some (min (count + 1) 4294967295)) (lookup (same_path (key_of q)) old)) (keys_alike id q))
    ∙ go (same q id) refl ∙ ap narrow (sym (again_more q id ids))
  where
    go : (b : Bool) → same q id ≡ b
        → unwrap_or (cond b (Some (min (count + 1) 4294967295)) (lookup (same_path (key_of q)) old)) 0 ≡ narrow (cond b (again q ids + 1) (again q ids))
    go true k =
        ap (λ n. min (n + 1) 4294967295) (is ∙ counted id) ∙ narrow_more (again id ids)
        ∙ ap (λ v. narrow (again v ids + 1)) (sym ((same_decides q id).0 k))
    go false k = counted q

-- the same for a key and a number that are computed
pub counted_next : (ids : List Value) (id : Value) (old new : List (List Step × ℕ)) (key : List Step) (count next : ℕ) → key ≡ key_of id → next ≡ min (count + 1) 4294967295
    → ((q : Value) → counted_at old (key_of q) ≡ narrow (again q ids)) → count ≡ counted_at old key
    → ((q : List Step) → lookup (same_path q) new ≡ cond (same_path key q) (Some next) (lookup (same_path q) old))
    → (q : Value) → counted_at new (key_of q) ≡ narrow (again q (ids ++ id ∷ []))
counted_next ids id old new key count next k e counted is put =
    counted_more ids id old new count counted (is ∙ ap (counted_at old) k) (λ q. put q
    ∙ ap (λ l. cond (same_path l q) (Some next) (lookup (same_path q) old)) k
    ∙ ap (λ n. cond (same_path (key_of id) q) (Some n) (lookup (same_path q) old)) e)
