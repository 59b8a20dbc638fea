-- Numbers that count up along a list, and what stands at them.
use Rattle.std.specs.Prelude.{◌≡◌, ℕ, zero, suc, ◌+◌, ◌<◌, ◌≤◌, Bool, true, false, ◌||◌, List, [], ◌∷◌, ◌++◌, length, map, Option, Some, None, is_some, slice_get}
use Rattle.std.specs.List.{filter_map, list_any, position_from, cons_option}
use Rattle.std.proofs.Common.{refl, sym, ap, subst, ◌∙◌, cond, arith}

-- ---- lists that are alike

-- an element at the same place that is alike
abbrev pub Alike : {X Z : Type 0} → (X → Z) → List X → ℕ → X → Type 0
Alike {X = X} f ys i x = (y : X) × (slice_get ys i ≡ Some y) × (f x ≡ f y)

pub alike_at : {X Z : Type 0} (f : X → Z) (xs ys : List X) (i : ℕ) (x : X) → map f xs ≡ map f ys → slice_get xs i ≡ Some x → Alike f ys i x
alike_at f [] ys i x e h = cc
alike_at f (a ∷ xs) [] i x e h = cc
alike_at f (a ∷ xs) (b ∷ ys) zero x e h = let k : f a ≡ f b = cc in let l : a ≡ x = cc in (b, refl, ap f (sym l) ∙ k)
alike_at f (a ∷ xs) (b ∷ ys) (suc i) x e h = let k : map f xs ≡ map f ys = cc in alike_at f xs ys i x k h

pub alike_length : {X Z : Type 0} (f : X → Z) (xs ys : List X) → map f xs ≡ map f ys → length xs ≡ length ys
alike_length f [] [] e = refl
alike_length f [] (b ∷ ys) e = cc
alike_length f (a ∷ xs) [] e = cc
alike_length f (a ∷ xs) (b ∷ ys) e = let k : map f xs ≡ map f ys = cc in ap suc (alike_length f xs ys k)

-- what is read of the elements through f is the same in lists that f makes equal
pub alike_map : {X Z W : Type 0} (f : X → Z) (h : X → W) → ((x y : X) → f x ≡ f y → h x ≡ h y) → (xs ys : List X) → map f xs ≡ map f ys → map h xs ≡ map h ys
alike_map f h same [] [] e = refl
alike_map f h same [] (b ∷ ys) e = cc
alike_map f h same (a ∷ xs) [] e = cc
alike_map f h same (a ∷ xs) (b ∷ ys) e =
    let k : map f xs ≡ map f ys = cc in let l : f a ≡ f b = cc in
    λ i. same a b l i ∷ alike_map f h same xs ys k i

pub some_at : {X : Type 0} (xs : List X) (i : ℕ) → i < length xs → (x : X) × (slice_get xs i ≡ Some x)
some_at [] i lt = absurd (omega arith)
some_at (x ∷ xs) zero lt = (x, refl)
some_at (x ∷ xs) (suc i) lt = some_at xs i (omega arith)

-- ---- numbers that count up

-- each that is a number is that of the numbers before it, counted from k
abbrev pub Counted : ℕ → List (Option ℕ) → Type 0
Counted k [] = Unit {0}
Counted k (None ∷ ns) = Counted k ns
Counted k (Some n ∷ ns) = (n ≡ k) × Counted (suc k) ns

-- how many numbers there are
abbrev pub numbers : List (Option ℕ) → ℕ
numbers [] = 0
numbers (None ∷ ns) = numbers ns
numbers (Some n ∷ ns) = suc (numbers ns)

pub counted_from : (k i n : ℕ) (ns : List (Option ℕ)) → Counted k ns → slice_get ns i ≡ Some (Some n) → k ≤ n
counted_from k i n [] c e = cc
counted_from k zero n (None ∷ ns) c e = cc
counted_from k zero n (Some m ∷ ns) c e = let h : m ≡ n = cc in omega (arith, c.0, h)
counted_from k (suc i) n (None ∷ ns) c e = counted_from k i n ns c e
counted_from k (suc i) n (Some m ∷ ns) c e = let h = counted_from (suc k) i n ns c.1 e in omega (arith, h)

pub counted_append : (k : ℕ) (ms ns : List (Option ℕ)) → Counted k ms → Counted (k + numbers ms) ns → Counted k (ms ++ ns)
counted_append k [] ns c d = let h : k + 0 ≡ k = omega arith in subst (λ j. Counted j ns) h d
counted_append k (None ∷ ms) ns c d = counted_append k ms ns c d
counted_append k (Some m ∷ ms) ns c d = let h : k + suc (numbers ms) ≡ suc k + numbers ms = omega arith in (c.0, counted_append (suc k) ms ns c.1 (subst (λ j. Counted j ns) h d))

pub numbers_append : (ms ns : List (Option ℕ)) → numbers (ms ++ ns) ≡ numbers ms + numbers ns
numbers_append [] ns = omega arith
numbers_append (None ∷ ms) ns = numbers_append ms ns
numbers_append (Some m ∷ ms) ns = let h = numbers_append ms ns in let k : suc (numbers (ms ++ ns)) ≡ suc (numbers ms) + numbers ns = omega (arith, h) in k

-- none is a number
abbrev pub NoNumber : List (Option ℕ) → Type 0
NoNumber [] = Unit {0}
NoNumber (None ∷ ns) = NoNumber ns
NoNumber (Some n ∷ ns) = ⊥

pub none_counted : (k : ℕ) (ns : List (Option ℕ)) → NoNumber ns → Counted k ns
none_counted k [] h = tt
none_counted k (None ∷ ns) h = none_counted k ns h
none_counted k (Some n ∷ ns) h = absurd h

pub none_numbers : (ns : List (Option ℕ)) → NoNumber ns → numbers ns ≡ 0
none_numbers [] h = refl
none_numbers (None ∷ ns) h = none_numbers ns h
none_numbers (Some n ∷ ns) h = absurd h

-- ---- what stands at a number

module _ {X Y : Type 0} (num : X → Option ℕ) (h : X → Option Y) (same : (x : X) → is_some (num x) ≡ is_some (h x)) where
  numbered : (xs : List X) (i n : ℕ) (x : X) → slice_get xs i ≡ Some x → num x ≡ Some n → slice_get (map num xs) i ≡ Some (Some n)
  numbered [] i n x e f = cc
  numbered (y ∷ ys) zero n x e f = let l : y ≡ x = cc in ap (λ z. Some (num z)) l ∙ ap Some f
  numbered (y ∷ ys) (suc i) n x e f = numbered ys i n x e f

  -- the elements that h takes stand at their numbers
  abbrev InPlace : List X → Type 0
  InPlace xs = (k i n j : ℕ) (x : X) → Counted k (map num xs) → slice_get xs i ≡ Some x → num x ≡ Some n → n ≡ k + j → slice_get (filter_map h xs) j ≡ h x

  in_place_by : (y : X) (ys : List X) → InPlace ys → (k n : ℕ) (x : X) → num x ≡ Some n
      → (a : Option ℕ) (b : Option Y) → num y ≡ a → h y ≡ b → is_some a ≡ is_some b → Counted k (a ∷ map num ys) → (i j : ℕ) → slice_get (y ∷ ys) i ≡ Some x → n ≡ k + j
      → slice_get (cons_option b (filter_map h ys)) j ≡ h x
  in_place_by y ys rest k n x f None None s t u c zero j e p = let l : y ≡ x = cc in let m : num x ≡ None = ap num (sym l) ∙ s in cc
  in_place_by y ys rest k n x f None None s t u c (suc i) j e p = rest k i n j x c e f p
  in_place_by y ys rest k n x f None (Some z) s t u c i j e p = cc
  in_place_by y ys rest k n x f (Some m) None s t u c i j e p = cc
  in_place_by y ys rest k n x f (Some m) (Some z) s t u c zero zero e p = let l : y ≡ x = cc in sym t ∙ ap h l
  in_place_by y ys rest k n x f (Some m) (Some z) s t u c zero (suc j) e p =
      let l : y ≡ x = cc in let o : ◌≡◌ {A = Option ℕ} (Some m) (Some n) = sym s ∙ ap num l ∙ f in let o : m ≡ n = cc in let q = c.0 in absurd (omega (arith, o, q, p))
  in_place_by y ys rest k n x f (Some m) (Some z) s t u c (suc i) zero e p = let q = counted_from (suc k) i n (map num ys) c.1 (numbered ys i n x e f) in absurd (omega (arith, q, p))
  in_place_by y ys rest k n x f (Some m) (Some z) s t u c (suc i) (suc j) e p = rest (suc k) i n j x c.1 e f (omega (arith, p))

  pub in_place : (xs : List X) → InPlace xs
  in_place [] k i n j x c e f p = cc
  in_place (y ∷ ys) k i n j x c e f p = in_place_by y ys (in_place ys) k n x f (num y) (h y) refl refl (same y) c i j e p

  taken_by : (ys : List X) → length (filter_map h ys) ≡ numbers (map num ys) → (a : Option ℕ) (b : Option Y) → is_some a ≡ is_some b
      → length (cons_option b (filter_map h ys)) ≡ numbers (a ∷ map num ys)
  taken_by ys r None None u = r
  taken_by ys r None (Some z) u = cc
  taken_by ys r (Some m) None u = cc
  taken_by ys r (Some m) (Some z) u = ap suc r

  pub taken_length : (xs : List X) → length (filter_map h xs) ≡ numbers (map num xs)
  taken_length [] = refl
  taken_length (y ∷ ys) = taken_by ys (taken_length ys) (num y) (h y) (same y)

-- ---- the first place of a name

pub or_none : (a b : Bool) → (a || b) ≡ false → (a ≡ false) × (b ≡ false)
or_none true b e = cc
or_none false b e = (refl, e)

-- where the test passes at an element and at none before it
pub first_place : {X : Type 0} (test : X → Bool) (k : ℕ) (before after : List X) (x : X) → test x ≡ true → list_any test before ≡ false
    → position_from test k (before ++ x ∷ after) ≡ Some (k + length before)
first_place test k [] after x t n = let h : k ≡ k + 0 = omega arith in ap (λ b. cond b (Some k) (position_from test (k + 1) after)) t ∙ ap Some h
first_place test k (y ∷ ys) after x t n =
    let o = or_none (test y) (list_any test ys) n in let h : k + 1 + length ys ≡ k + suc (length ys) = omega arith in
    ap (λ b. cond b (Some k) (position_from test (k + 1) (ys ++ x ∷ after))) o.0 ∙ first_place test (k + 1) ys after x t o.1 ∙ ap Some h
