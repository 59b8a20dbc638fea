-- A turn of each loop.
use Rattle.std.proofs.Common.{◌≡◌, ℕ, zero, suc, ◌+◌, ◌<◌, ◌≤◌, List, [], ◌∷◌, ◌++◌, Some, length, drop, slice_get, slice_set, refl, sym, ap, ◌∙◌, arith, slice_index_or, drop-cons, append_assoc, append-nil}
use Rattle.call_reach.specs.declared.search.Conduct.{Conduct}
use Rattle.call_reach.specs.Callers.{with_caller, with_calls, callers_from, itself_if, writers_from}

suc-is : (i : ℕ) → suc i ≡ i + 1
suc-is i = omega arith

drop-turn : {X : Type 0} (xs : List X) (i : ℕ) (x : X) → i < length xs → x ≡ slice_index_or xs i x → drop i xs ≡ x ∷ drop (i + 1) xs
drop-turn xs i x lt e = drop-cons xs i x lt ∙ ap (λ y. y ∷ drop (suc i) xs) (sym e) ∙ ap (λ n. x ∷ drop n xs) (suc-is i)

drop-end : {X : Type 0} (xs : List X) (i : ℕ) → length xs ≤ i → drop i xs ≡ []
drop-end [] zero le = refl
drop-end [] (suc i) le = refl
drop-end (x ∷ xs) zero le = absurd (omega arith)
drop-end (x ∷ xs) (suc i) le = drop-end xs i (omega arith)

-- the list at a place is taken out, and put back with one caller more
pub caller_put : (i : ℕ) (xss : List (List ℕ)) (j : ℕ) (xs e ys : List ℕ) → slice_get xss j ≡ Some xs → ys ≡ xs ++ i ∷ [] → slice_set (slice_set xss j e) j ys ≡ with_caller i xss j
caller_put i [] j xs e ys g h = cc
caller_put i (zs ∷ zss) zero xs e ys g h = let same : zs ≡ xs = cc in ap (λ (v : List ℕ). v ∷ zss) (h ∙ ap (λ (v : List ℕ). v ++ i ∷ []) (sym same))
caller_put i (zs ∷ zss) (suc j) xs e ys g h = ap (λ (v : List (List ℕ)). zs ∷ v) (caller_put i zss j xs e ys g h)

pub caller_past : (i : ℕ) (xss : List (List ℕ)) (j : ℕ) → length xss ≤ j → with_caller i xss j ≡ xss
caller_past i [] j le = refl
caller_past i (zs ∷ zss) zero le = absurd (omega arith)
caller_past i (zs ∷ zss) (suc j) le = ap (λ (v : List (List ℕ)). zs ∷ v) (caller_past i zss j (omega arith))

pub callers_turn : (callers : List (List ℕ)) (ms : List Conduct) (i : ℕ) (m : Conduct) → i < length ms → m ≡ slice_index_or ms i m
    → callers_from i callers (drop i ms) ≡ callers_from (i + 1) (with_calls i callers m.calls) (drop (i + 1) ms)
callers_turn callers ms i m lt e =
    ap (λ (v : List Conduct). callers_from i callers v) (drop-turn ms i m lt e)
    ∙ ap (λ (n : ℕ). callers_from n (with_calls i callers m.calls) (drop (i + 1) ms)) (suc-is i)

pub callers_end : (callers : List (List ℕ)) (ms : List Conduct) (i : ℕ) → length ms ≤ i → callers_from i callers (drop i ms) ≡ callers
callers_end callers ms i le = ap (λ (v : List Conduct). callers_from i callers v) (drop-end ms i le)

pub writers_turn : (out : List ℕ) (ms : List Conduct) (i : ℕ) (m : Conduct) → i < length ms → m ≡ slice_index_or ms i m
    → out ++ writers_from i (drop i ms) ≡ (out ++ itself_if m i) ++ writers_from (i + 1) (drop (i + 1) ms)
writers_turn out ms i m lt e =
    ap (λ (v : List Conduct). out ++ writers_from i v) (drop-turn ms i m lt e)
    ∙ ap (λ (n : ℕ). out ++ (itself_if m i ++ writers_from n (drop (i + 1) ms))) (suc-is i)
    ∙ sym (append_assoc out (itself_if m i) (writers_from (i + 1) (drop (i + 1) ms)))

pub writers_end : (out : List ℕ) (ms : List Conduct) (i : ℕ) → length ms ≤ i → out ++ writers_from i (drop i ms) ≡ out
writers_end out ms i le = ap (λ (v : List Conduct). out ++ writers_from i v) (drop-end ms i le) ∙ append-nil out
