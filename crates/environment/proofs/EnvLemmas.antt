-- The values of all keys, key by key.
use Rattle.std.proofs.Common.{◌≡◌, ℕ, ◌<◌, List, [], ◌∷◌, length, Option, Some, None, slice_get, slice_set, nat_eq, cond, Bool, true, false, refl, sym, ap, ◌∙◌, arith, zero, suc, inl, inr, ◌≢◌}
use Rattle.std.specs.Map.{lookup}
use Rattle.std.proofs.lemmas.Bool.{cases_Bool}
use Rattle.std.proofs.lemmas.Bool.Decides.{Decides-eqb}
use Rattle.std.proofs.lemmas.List.{length-set}
use Rattle.sv_value.specs.declared.value.Value.{Value}
use Rattle.sv_value.specs.HopLaws.{slice_get-set_same}
use Rattle.environment.specs.Overlaid.{overlaid}

abbrev Changes : Type 0
Changes = List (ℕ × Value)

abbrev pub found_or : Option Value → Option Value → Option Value
found_or None d = d
found_or (Some v) d = Some v

pub length-overlaid : (d : List Value) (es : Changes) → length (overlaid d es) ≡ length d
length-overlaid d [] = refl
length-overlaid d (e ∷ es) = length-set (overlaid d es) e.0 e.1 ∙ length-overlaid d es

slice_get-set_other : (xs : List Value) (i j : ℕ) (y : Value) → j ≢ i → slice_get (slice_set xs i y) j ≡ slice_get xs j
slice_get-set_other [] i j y ne = refl
slice_get-set_other (x ∷ xs) zero zero y ne = absurd (ne refl)
slice_get-set_other (x ∷ xs) zero (suc j) y ne = refl
slice_get-set_other (x ∷ xs) (suc i) zero y ne = refl
slice_get-set_other (x ∷ xs) (suc i) (suc j) y ne = slice_get-set_other xs i j y (λ e. ne (ap suc e))

get_changed : (b : Bool) (d xs : List Value) (e : ℕ × Value) (es : Changes) (k : ℕ) → nat_eq k e.0 ≡ b → k < length xs → slice_get xs k ≡ found_or (lookup (nat_eq k) es) (slice_get d k) →
    slice_get (slice_set xs e.0 e.1) k ≡ found_or (cond b (Some e.1) (lookup (nat_eq k) es)) (slice_get d k)
get_changed true d xs e es k is within rest =
    let same : k ≡ e.0 = (Decides-eqb k e.0).0 is in
    ap (λ i. slice_get (slice_set xs i e.1) k) (sym same) ∙ slice_get-set_same xs k e.1 within
get_changed false d xs e es k is within rest = slice_get-set_other xs e.0 k e.1 (λ same. let yes_is = (Decides-eqb k e.0).1 same in cc) ∙ rest

pub slice_get-overlaid : (d : List Value) (es : Changes) (k : ℕ) → k < length d → slice_get (overlaid d es) k ≡ found_or (lookup (nat_eq k) es) (slice_get d k)
slice_get-overlaid d [] k within = refl
slice_get-overlaid d (e ∷ es) k within =
    get_changed (nat_eq k e.0) d (overlaid d es) e es k refl (let n = length-overlaid d es in omega arith) (slice_get-overlaid d es k within)

same_by_get : (xs ys : List Value) → length xs ≡ length ys → ((k : ℕ) → k < length xs → slice_get xs k ≡ slice_get ys k) → xs ≡ ys
same_by_get [] [] n is = refl
same_by_get [] (y ∷ ys) n is = absurd (omega arith)
same_by_get (x ∷ xs) [] n is = absurd (omega arith)
same_by_get (x ∷ xs) (y ∷ ys) n is =
    let first : Some x ≡ Some y = is 0 (omega arith) in
    let head : x ≡ y = cc in
    let rest = same_by_get xs ys (omega arith) (λ k h. is (suc k) (omega arith)) in
    λ i. head i ∷ rest i

-- a table that answers anew at one key
pub overlaid-put : (d : List Value) (old new : Changes) (k : ℕ) (v : Value) → ((q : ℕ) → lookup (nat_eq q) new ≡ cond (nat_eq k q) (Some v) (lookup (nat_eq q) old)) → k < length d →
    overlaid d new ≡ slice_set (overlaid d old) k v
overlaid-put d old new k v is within =
    same_by_get _ _ (length-overlaid d new ∙ sym (length-set (overlaid d old) k v ∙ length-overlaid d old)) (λ q h.
    let in_range : q < length d = let n = length-overlaid d new in omega arith in
    let in_old : q < length (overlaid d old) = let n = length-overlaid d old in omega arith in
    slice_get-overlaid d new q in_range ∙ ap (λ o. found_or o (slice_get d q)) (is q) ∙ elim (cases_Bool (nat_eq k q)) [
      | inl is_same ↦
          let same : k ≡ q = (Decides-eqb k q).0 is_same in
          ap (λ b. found_or (cond b (Some v) (lookup (nat_eq q) old)) (slice_get d q)) is_same
          ∙ sym (ap (λ i. slice_get (slice_set (overlaid d old) i v) q) same ∙ slice_get-set_same (overlaid d old) q v in_old)
      | inr apart ↦
          ap (λ b. found_or (cond b (Some v) (lookup (nat_eq q) old)) (slice_get d q)) apart
          ∙ sym (slice_get-set_other (overlaid d old) k q v (λ e. let is_same = (Decides-eqb k q).1 (sym e) in cc) ∙ slice_get-overlaid d old q in_range)
    ])
