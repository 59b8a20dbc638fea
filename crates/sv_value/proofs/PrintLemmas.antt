-- Lists of pieces, one piece longer.
use Rattle.std.proofs.Common.{◌≡◌, ℕ, suc, inl, inr, ◌+◌, ◌<◌, ◌≤◌, Bool, true, List, [], ◌∷◌, ◌++◌, length, map, take, get_or, codes, refl, sym, ◌∙◌, ap, arith}
use Rattle.std.specs.List.{list_all}
use Rattle.std.proofs.lemmas.Grind.{common_steps}
use Rattle.std.proofs.lemmas.List.{take_more, map_push, length-map, length-take}
use Rattle.std.proofs.lemmas.List.Folds.{list_all_at, list_all-map}
use Rattle.std.proofs.lemmas.Bool.{false≢true, cases_Bool}
use Rattle.sv_value.specs.Joined.{before, join_by_push}
use Rattle.sv_value.specs.Print.{listed, labelled}

-- one more part, under its field's name
labelled_push : (names parts : List (List ℕ)) (part d : List ℕ) → length parts < length names → labelled names (parts ++ part ∷ []) ≡ labelled names parts ++ (get_or names (length parts) d ++ codes ": " ++ part) ∷ []
labelled_push [] parts part d h = absurd (omega arith)
labelled_push (name ∷ names) [] part d h = grind (arith, common_steps)
labelled_push (name ∷ names) (p ∷ parts) part d h = grind (arith, common_steps, labelled_push names parts part d (omega arith))

length-labelled : (names parts : List (List ℕ)) → length parts ≤ length names → length (labelled names parts) ≡ length parts
length-labelled names [] h = refl
length-labelled [] (p ∷ parts) h = absurd (omega arith)
length-labelled (name ∷ names) (p ∷ parts) h = ap suc (length-labelled names parts (omega arith))

-- a test that each element passes, at one element
pub passes_at : {X : Type 0} (p : X → Bool) (xs : List X) (i : ℕ) (d : X) → i < length xs → list_all (λ b. b) (map p xs) ≡ true → p (get_or xs i d) ≡ true
passes_at p xs i d h a =
    let fails = list_all_at p xs i d h in
    let here : list_all p xs ≡ true = sym (list_all-map (λ b. b) p xs) ∙ a in
    elim (cases_Bool (p (get_or xs i d))) [ inl t ↦ t | inr f ↦ absurd (false≢true (sym (fails f) ∙ here)) ]

-- one more element's piece
pub listed_turn : {X : Type 0} (f : X → List ℕ) (xs : List X) (i : ℕ) (x : X) → i < length xs → x ≡ get_or xs i x → listed (map f (take (i + 1) xs)) ≡ listed (map f (take i xs)) ++ before (codes ", ") i ++ f x
listed_turn f xs i x h e =
    let n : length (map f (take i xs)) ≡ i = simp (length-map, length-take) (omega arith) in
    rw (take_more xs i x h, ← e, map_push f (take i xs) x, join_by_push (λ (p : List ℕ). p) (codes ", ") (map f (take i xs)) (f x), n) refl

-- one more element's piece, under its field's name
pub labelled_turn : {X : Type 0} (f : X → List ℕ) (names : List (List ℕ)) (xs : List X) (i : ℕ) (x : X) (name : List ℕ) → i < length xs → x ≡ get_or xs i x → i < length names → name ≡ get_or names i [] →
    listed (labelled names (map f (take (i + 1) xs))) ≡ listed (labelled names (map f (take i xs))) ++ before (codes ", ") i ++ (name ++ codes ": " ++ f x)
labelled_turn f names xs i x name h e k m =
    let n : length (map f (take i xs)) ≡ i = simp (length-map, length-take) (omega arith) in
    let l : length (labelled names (map f (take i xs))) ≡ i = length-labelled names (map f (take i xs)) (omega arith) ∙ n in
    let p = labelled_push names (map f (take i xs)) (f x) [] (omega arith) in
    rw (take_more xs i x h, ← e, map_push f (take i xs) x, p, n, ← m, join_by_push (λ (p : List ℕ). p) (codes ", ") (labelled names (map f (take i xs))) _, l) refl
