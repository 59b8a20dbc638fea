-- Parts are collected one group after another.
use Rattle.std.proofs.Common.{◌≡◌, ℕ, zero, suc, ◌+◌, ◌<◌, List, [], ◌∷◌, ◌++◌, length, take, map, Some, slice_get, get_or, refl, sym, ap, subst, ◌∙◌, arith, append_assoc}
use Rattle.std.specs.List.{flat_map}
use Rattle.std.proofs.lemmas.Option.{slice_get_read}
use Rattle.std.proofs.lemmas.List.{append-nil}
use Rattle.source_parts.specs.Parts.{Part}

grouped : {X : Type 0} (f : X → List Part) (xs : List X) (i : ℕ) (x : X) → slice_get xs i ≡ Some x → flat_map f (take (suc i) xs) ≡ flat_map f (take i xs) ++ f x
grouped f [] i x e = cc
grouped f (y ∷ ys) zero x e = let h : y ≡ x = cc in ap (λ v. f v ++ []) h ∙ append-nil (f x)
grouped f (y ∷ ys) (suc i) x e = ap (λ (v : List Part). f y ++ v) (grouped f ys i x e) ∙ sym (append_assoc (f y) (flat_map f (take i ys)) (f x))

-- one more group
pub one_more : {X : Type 0} (f : X → List Part) (old now : List Part) (xs : List X) (i : ℕ) (x : X) → i < length xs → x ≡ get_or xs i x
    → now ≡ old ++ flat_map f (take i xs) → now ++ f x ≡ old ++ flat_map f (take (i + 1) xs)
one_more f old now xs i x l e h =
    let n : suc i ≡ i + 1 = omega arith in
    ap (λ (v : List Part). v ++ f x) h ∙ append_assoc old (flat_map f (take i xs)) (f x)
    ∙ ap (λ (v : List Part). old ++ v) (sym (subst (λ (j : ℕ). flat_map f (take j xs) ≡ flat_map f (take i xs) ++ f x) n (grouped f xs i x (slice_get_read xs (length xs) i x refl l e))))

-- a piece as a whole, and then what stands in it
pub whole_piece : (old mid new : List Part) (p : Part) (inner : List Part) → mid ≡ old ++ p ∷ [] → new ≡ mid ++ inner → new ≡ old ++ p ∷ inner
whole_piece old mid new p inner h k = k ∙ ap (λ (v : List Part). v ++ inner) h ∙ append_assoc old (p ∷ []) inner
