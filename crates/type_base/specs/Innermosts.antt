-- The last element that passes is the innermost one.
use Rattle.std.proofs.Common.{◌≡◌, ℕ, zero, suc, ◌<◌, Bool, true, false, List, [], ◌∷◌, Option, Some, None, slice_get, refl, sym, ap, subst, ◌∙◌, arith, ◌↔◌, ◌⊎◌, inl, inr, ◌+◌, ◌++◌, length, take, slice_index_or, cond}
use Rattle.std.proofs.lemmas.List.{take_more, length-take-le}
use Rattle.type_base.specs.Claims.{Reads, some_is}
use Rattle.type_base.specs.Context.{Innermost, or_head, last_at}

got : {A : Type 0} (i j : ℕ) (x y : A) → ◌≡◌ {A = Option (ℕ × A)} (Some (i, x)) (Some (j, y)) → (i ≡ j) × (x ≡ y)
got {A = A} i j x y e = let h = some_is {A = ℕ × A} (i, x) (j, y) e in (ap (λ (p : ℕ × A). p.0) h, ap (λ (p : ℕ × A). p.1) h)

order : (i j : ℕ) → (i < j) ⊎ ((j < i) ⊎ (i ≡ j))
order zero zero = inr (inr refl)
order zero (suc j) = inl (omega arith)
order (suc i) zero = inr (inl (omega arith))
order (suc i) (suc j) = elim (order i j) [
  | inl lt ↦ inl (omega arith)
  | inr w ↦ elim w [ inl lt ↦ inr (inl (omega arith)) | inr e ↦ inr (inr (λ k. suc (e k))) ]
]

module _ {A : Type 0} (test : A → Bool) (P : A → Type 0) (decides : (x : A) → (test x ≡ true) ↔ P x) where
  or_none : (o : Option (ℕ × A)) (b : Bool) (x : A) → or_head o b x ≡ None → (o ≡ None) × (b ≡ false)
  or_none (Some r) b x e = cc
  or_none None true x e = cc
  or_none None false x e = (refl, refl)

  pub none_so : (xs : List A) → last_at test xs ≡ None → (j : ℕ) (y : A) → slice_get xs j ≡ Some y → P y → ⊥
  none_so [] e j y s p = cc
  none_so (x ∷ xs) e zero y s p =
      let h = or_none (last_at test xs) (test x) x e in
      let same : x ≡ y = some_is x y s in
      let t : test x ≡ true = (decides x).1 (subst P (sym same) p) in
      let f : test x ≡ false = h.1 in
      cc
  none_so (x ∷ xs) e (suc j) y s p = none_so xs (or_none (last_at test xs) (test x) x e).0 j y s p

  step : (x : A) (xs : List A) (at : ℕ) (y : A) → Innermost P xs at y → Innermost P (x ∷ xs) (suc at) y
  step x xs at y h = record {
    stands = h.stands;
    is_so = h.is_so;
    none_after = λ j z lt s p. past j z lt s p;
  } where
    past : (j : ℕ) (z : A) → suc at < j → slice_get (x ∷ xs) j ≡ Some z → P z → ⊥
    past zero z lt s p = absurd (omega arith)
    past (suc j) z lt s p = h.none_after j z (omega arith) s p

  sound_head : (x : A) (xs : List A) (o : Option (ℕ × A)) (b : Bool) → last_at test xs ≡ o → test x ≡ b
      → ((at : ℕ) (y : A) → last_at test xs ≡ Some (at, y) → Innermost P xs at y)
      → (at : ℕ) (y : A) → or_head o b x ≡ Some (at, y) → Innermost P (x ∷ xs) at y
  sound_head x xs (Some r) b eo eb ih at y e =
      let h = got (suc r.0) at r.1 y e in
      subst (λ (i : ℕ). Innermost P (x ∷ xs) i y) h.0 (subst (λ (z : A). Innermost P (x ∷ xs) (suc r.0) z) h.1 (step x xs r.0 r.1 (ih r.0 r.1 eo)))
  sound_head x xs None true eo eb ih at y e =
      let h = got zero at x y e in
      subst (λ (i : ℕ). Innermost P (x ∷ xs) i y) h.0 (subst (λ (z : A). Innermost P (x ∷ xs) zero z) h.1 (record {
        stands = refl;
        is_so = (decides x).0 eb;
        none_after = λ j z lt s p. past j z lt s p;
      }))
    where
      past : (j : ℕ) (z : A) → zero < j → slice_get (x ∷ xs) j ≡ Some z → P z → ⊥
      past zero z lt s p = absurd (omega arith)
      past (suc j) z lt s p = none_so xs eo j z s p
  sound_head x xs None false eo eb ih at y e = cc

  pub last_sound : (xs : List A) (at : ℕ) (x : A) → last_at test xs ≡ Some (at, x) → Innermost P xs at x
  last_sound [] at x e = cc
  last_sound (y ∷ xs) at x e = sound_head y xs (last_at test xs) (test y) refl refl (last_sound xs) at x e

  -- two innermost ones are one
  none_innermost : (xs : List A) (at : ℕ) (x : A) → Innermost P xs at x → last_at test xs ≡ None → ⊥
  none_innermost xs at x h e = none_so xs e at x h.stands h.is_so

  apart : (xs : List A) (i : ℕ) (y : A) (at : ℕ) (x : A) → Innermost P xs i y → Innermost P xs at x → i ≡ at
  apart xs i y at x h k = elim (order i at) [
    | inl lt ↦ absurd (h.none_after at x lt k.stands k.is_so)
    | inr w ↦ elim w [ inl lt ↦ absurd (k.none_after i y lt h.stands h.is_so) | inr e ↦ e ]
  ]

  case_of : (xs : List A) (o : Option (ℕ × A)) → last_at test xs ≡ o → (at : ℕ) (x : A) → Innermost P xs at x → o ≡ Some (at, x)
  case_of xs None e at x h = absurd (none_innermost xs at x h e)
  case_of xs (Some r) e at x h =
      let i = apart xs r.0 r.1 at x (last_sound xs r.0 r.1 e) h in
      let s : slice_get xs at ≡ Some r.1 = subst (λ (n : ℕ). slice_get xs n ≡ Some r.1) i (last_sound xs r.0 r.1 e).stands in
      let v : r.1 ≡ x = some_is r.1 x (sym s ∙ h.stands) in
      λ k. Some (i k, v k)

  pub reads_last : (xs : List A) → Reads (last_at test xs) (λ r. Innermost P xs r.0 r.1)
  reads_last xs r = (last_sound xs r.0 r.1, case_of xs (last_at test xs) refl r.0 r.1)

-- ---- one more element

snoc_head : {A : Type 0} (b : Bool) (x : A) (o : Option (ℕ × A)) (c : Bool) (y : A) (n : ℕ)
    → or_head (cond b (Some (n, x)) o) c y ≡ cond b (Some (suc n, x)) (or_head o c y)
snoc_head true x o c y n = refl
snoc_head false x o c y n = refl

pub last_snoc : {A : Type 0} (test : A → Bool) (xs : List A) (x : A) → last_at test (xs ++ x ∷ []) ≡ cond (test x) (Some (length xs, x)) (last_at test xs)
last_snoc test [] x = elim (test x) as (λ b. or_head None b x ≡ cond b (Some (zero, x)) None) [ true ↦ refl | false ↦ refl ]
last_snoc test (y ∷ xs) x = ap (λ o. or_head o (test y) y) (last_snoc test xs x) ∙ snoc_head (test x) x (last_at test xs) (test y) y (length xs)

last_take : {A : Type 0} (test : A → Bool) (xs : List A) (i : ℕ) (x : A) → i < length xs → x ≡ slice_index_or xs i x
    → last_at test (take (i + 1) xs) ≡ cond (test x) (Some (i, x)) (last_at test (take i xs))
last_take test xs i x lt is =
    ap (last_at test) (take_more xs i x lt ∙ ap (λ v. take i xs ++ v ∷ []) (sym is)) ∙ last_snoc test (take i xs) x
    ∙ ap (λ n. cond (test x) (Some (n, x)) (last_at test (take i xs))) (length-take-le i xs (omega arith))

pub last_found : {A : Type 0} (test : A → Bool) (xs : List A) (i : ℕ) (x : A) → i < length xs → x ≡ slice_index_or xs i x → test x ≡ true
    → last_at test xs ≡ last_at test (take (i + 1) xs) → last_at test xs ≡ Some (i, x)
last_found test xs i x lt is t e = e ∙ last_take test xs i x lt is ∙ ap (λ b. cond b (Some (i, x)) (last_at test (take i xs))) t

pub last_passed : {A : Type 0} (test : A → Bool) (xs : List A) (i : ℕ) (x : A) → i < length xs → x ≡ slice_index_or xs i x → test x ≡ false
    → last_at test xs ≡ last_at test (take (i + 1) xs) → last_at test xs ≡ last_at test (take i xs)
last_passed test xs i x lt is t e = e ∙ last_take test xs i x lt is ∙ ap (λ b. cond b (Some (i, x)) (last_at test (take i xs))) t
