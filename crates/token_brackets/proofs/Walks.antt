-- The loop over the brackets, and what it says of the text.
use Rattle.std.proofs.Common.{◌≡◌, ℕ, zero, suc, ◌+◌, ◌<◌, ◌≤◌, length, get_or, drop, drop-cons, arith, Bool, true, false, List, [], ◌∷◌, ◌++◌, refl, sym, ap, subst, ◌∙◌, append_assoc, inl, inr}
use Rattle.std.specs.Prelude.{Option, Some, None, Result, Ok, Err, IfOk, reverse, MatchOption}
use Rattle.std.proofs.lemmas.List.{append-nil, reverse-append}
use Rattle.std.specs.declared.alloc.AllocError.{AllocError}
use Rattle.swift_lex.specs.declared.token.Token.{Token}
use Rattle.token_brackets.specs.declared.brackets.Shape.{Shape}
use Rattle.token_brackets.specs.declared.brackets.Shape.TheVariants as shape
use Rattle.token_brackets.specs.declared.brackets.Bracket.{Bracket}
use Rattle.token_brackets.specs.declared.brackets.Bracket.TheVariants as bracket
use Rattle.token_brackets.specs.declared.partners.Waiting.{Waiting}
use Rattle.token_brackets.specs.Brackets.{bracket_of, IsPlain, Opens, Closes}
use Rattle.token_brackets.specs.Balance.{Balanced, nothing, plain, pair, Leaves, none, more, waiting, Awaits, Mismatched, Unbalanced}
use Rattle.token_brackets.specs.Machine.{same_shape, step, walk_by, walk, fault_line, Stepped}

pub same_self : (s : Shape) → same_shape s s ≡ true
same_self shape.Round = refl
same_self shape.Square = refl
same_self shape.Curly = refl

pub same_is : (r s : Shape) → same_shape r s ≡ true → r ≡ s
same_is shape.Round shape.Round e = refl
same_is shape.Square shape.Square e = refl
same_is shape.Curly shape.Curly e = refl
same_is shape.Round shape.Square e = absurd cc
same_is shape.Round shape.Curly e = absurd cc
same_is shape.Square shape.Round e = absurd cc
same_is shape.Square shape.Curly e = absurd cc
same_is shape.Curly shape.Round e = absurd cc
same_is shape.Curly shape.Square e = absurd cc

-- one token of each kind

walk_plain : (left : List Waiting) (t : Token) (ts : List Token) → IsPlain t → walk left (t ∷ ts) ≡ walk left ts
unfolding walk
walk_plain left t ts e = rw e refl

walk_open : (s : Shape) (left : List Waiting) (t : Token) (ts : List Token) → Opens s t → walk left (t ∷ ts) ≡ walk (waiting s t.line ∷ left) ts
unfolding walk
walk_open s left t ts e = rw e refl

walk_close : (s : Shape) (left : List Waiting) (line : ℕ) (t : Token) (ts : List Token) → Closes s t → walk (waiting s line ∷ left) (t ∷ ts) ≡ walk left ts
unfolding walk
walk_close s left line t ts e = rw (e, same_self s) refl

-- a balanced text changes nothing
pub skip : {xs : List Token} → Balanced xs → (left : List Waiting) (ys : List Token) → walk left (xs ++ ys) ≡ walk left ys
skip nothing left ys = refl
skip (plain {t} {ts} p b) left ys = walk_plain left t (ts ++ ys) p ∙ skip b left ys
skip (pair s o c inside after os bi cs ba) left ys =
    walk_open s left o ((inside ++ c ∷ after) ++ ys) os
    ∙ ap (walk (waiting s o.line ∷ left)) (append_assoc inside (c ∷ after) ys)
    ∙ skip bi (waiting s o.line ∷ left) (c ∷ (after ++ ys))
    ∙ walk_close s left o.line c (after ++ ys) cs
    ∙ skip ba left ys

pub leaves_walk : {xs : List Token} {left : List Waiting} → Leaves xs left → (ys : List Token) → walk [] (xs ++ ys) ≡ walk left ys
leaves_walk (none b) ys = skip b [] ys
leaves_walk (more s o before inside {ws} l os b) ys =
    ap (walk []) (append_assoc before (o ∷ inside) ys)
    ∙ leaves_walk l (o ∷ (inside ++ ys))
    ∙ walk_open s ws o (inside ++ ys) os
    ∙ skip b (waiting s o.line ∷ ws) ys

-- ---- the other way

pub balanced_append : {xs ys : List Token} → Balanced xs → Balanced ys → Balanced (xs ++ ys)
balanced_append nothing b = b
balanced_append (plain p a) b = plain p (balanced_append a b)
balanced_append {ys = ys} (pair s o c inside after os bi cs ba) b =
    subst (λ (v : List Token). Balanced (o ∷ v)) (sym (append_assoc inside (c ∷ after) ys)) (pair s o c inside (after ++ ys) os bi cs (balanced_append ba b))

pub leaves_append : {xs ys : List Token} {left : List Waiting} → Leaves xs left → Balanced ys → Leaves (xs ++ ys) left
leaves_append (none a) b = none (balanced_append a b)
leaves_append {ys = ys} (more s o before inside {ws} l os a) b =
    subst (λ (v : List Token). Leaves v (waiting s o.line ∷ ws)) (sym (append_assoc before (o ∷ inside) ys)) (more s o before (inside ++ ys) l os (balanced_append a b))

-- what a matching bracket closes
pub leaves_close : {xs : List Token} {w : Waiting} {ws : List Waiting} (c : Token) → Leaves xs (w ∷ ws) → Closes w.shape c → Leaves (xs ++ c ∷ []) ws
leaves_close c (more s o before inside {ws} l os b) cs =
    subst (λ (v : List Token). Leaves v ws) (sym (append_assoc before (o ∷ inside) (c ∷ []))) (leaves_append l (pair s o c inside [] os b cs nothing))

pub leaves_open : {xs : List Token} {ws : List Waiting} (s : Shape) (o : Token) → Leaves xs ws → Opens s o → Leaves (xs ++ o ∷ []) (waiting s o.line ∷ ws)
leaves_open {xs} s o l os = more s o xs [] l os nothing

-- what a walk finds
abbrev pub Found : List Token → Result (List Waiting) ℕ → Type 0
Found ts (Ok left) = Leaves ts left
Found ts (Err line) = Mismatched ts line

-- that a walk from these brackets on finds what is true of the whole text
abbrev Finds : List Token → Type 0
Finds ts = (before : List Token) (left : List Waiting) (r : Result (List Waiting) ℕ) → Leaves before left → walk left ts ≡ r → Found (before ++ ts) r

onward : (before : List Token) (t : Token) (ts : List Token) (r : Result (List Waiting) ℕ) → Found ((before ++ t ∷ []) ++ ts) r → Found (before ++ t ∷ ts) r
onward before t ts r f = subst (λ (v : List Token). Found v r) (append_assoc before (t ∷ []) ts) f

not_awaited : (s : Shape) (w : Waiting) (ws : List Waiting) → same_shape w.shape s ≡ false → Awaits s (w ∷ ws) → ⊥
not_awaited s w ws e a = let same : same_shape w.shape s ≡ true = rw a (same_self s) in absurd cc

abbrev walk_err : ℕ → Result (List Waiting) ℕ
walk_err l = Err l

walk_alone : (s : Shape) (t : Token) (ts : List Token) → Closes s t → walk [] (t ∷ ts) ≡ Err t.line
unfolding walk
walk_alone s t ts e = rw e refl

walk_other : (s : Shape) (w : Waiting) (ws : List Waiting) (t : Token) (ts : List Token) → Closes s t → same_shape w.shape s ≡ false → walk (w ∷ ws) (t ∷ ts) ≡ Err t.line
unfolding walk
walk_other s w ws t ts e f = rw (e, f) refl

walk_match : (s : Shape) (w : Waiting) (ws : List Waiting) (t : Token) (ts : List Token) → Closes s t → same_shape w.shape s ≡ true → walk (w ∷ ws) (t ∷ ts) ≡ walk ws ts
unfolding walk
walk_match s w ws t ts e f = rw (e, f) refl

mismatch : (before : List Token) (left : List Waiting) (s : Shape) (t : Token) (ts : List Token) (r : Result (List Waiting) ℕ)
    → Leaves before left → Closes s t → (Awaits s left → ⊥) → Err t.line ≡ r → Found (before ++ t ∷ ts) r
mismatch before left s t ts r l cs un e =
    subst (λ (v : Result (List Waiting) ℕ). Found (before ++ t ∷ ts) v) e
    (record { before = before; left = left; shape = s; close = t; after = ts; is = refl; leaves = l; closes = cs; unmatched = un; stands = refl })

finds_close : (s : Shape) (before : List Token) (w : Waiting) (ws : List Waiting) (t : Token) (ts : List Token) (r : Result (List Waiting) ℕ) → Finds ts
    → Leaves before (w ∷ ws) → Closes s t → walk (w ∷ ws) (t ∷ ts) ≡ r → (b : Bool) → same_shape w.shape s ≡ b → Found (before ++ t ∷ ts) r
finds_close s before w ws t ts r later l cs e true m =
    onward before t ts r (later (before ++ t ∷ []) ws r (leaves_close t l (subst (λ (v : Shape). Closes v t) (sym (same_is w.shape s m)) cs)) (sym (walk_match s w ws t ts cs m) ∙ e))
finds_close s before w ws t ts r later l cs e false m = mismatch before (w ∷ ws) s t ts r l cs (not_awaited s w ws m) (sym (walk_other s w ws t ts cs m) ∙ e)

finds_step : (before : List Token) (left : List Waiting) (t : Token) (ts : List Token) (r : Result (List Waiting) ℕ) → Finds ts
    → Leaves before left → walk left (t ∷ ts) ≡ r → (o : Option Bracket) → bracket_of t ≡ o → Found (before ++ t ∷ ts) r
finds_step before left t ts r later l e None is =
    onward before t ts r (later (before ++ t ∷ []) left r (leaves_append l (plain is nothing)) (sym (walk_plain left t ts is) ∙ e))
finds_step before left t ts r later l e (Some (bracket.Opens s)) is =
    onward before t ts r (later (before ++ t ∷ []) (waiting s t.line ∷ left) r (leaves_open s t l is) (sym (walk_open s left t ts is) ∙ e))
finds_step before [] t ts r later l e (Some (bracket.Closes s)) is = mismatch before [] s t ts r l is (λ a. a) (sym (walk_alone s t ts is) ∙ e)
finds_step before (w ∷ ws) t ts r later l e (Some (bracket.Closes s)) is = finds_close s before w ws t ts r later l is e (same_shape w.shape s) refl

finds : (ts : List Token) → Finds ts
unfolding walk
finds [] before left r l e = subst (λ (v : Result (List Waiting) ℕ). Found (before ++ []) v) e (subst (λ (v : List Token). Leaves v left) (sym (append-nil before)) l)
finds (t ∷ ts) before left r l e = finds_step before left t ts r (finds ts) l e (bracket_of t) refl

-- ---- the whole text

pub leaves_none : {ts : List Token} → Leaves ts [] → Balanced ts
leaves_none (none b) = b

abbrev Answered : List Token → Option ℕ → Type 0
Answered ts o = MatchOption o (Balanced ts) (λ line. Unbalanced ts line)

answered : (ts : List Token) (r : Result (List Waiting) ℕ) → Found ts r → Answered ts (fault_line r)
answered ts (Ok []) f = leaves_none f
answered ts (Ok (w ∷ ws)) f = inr (record { innermost = w; others = ws; leaves = f; stands = refl })
answered ts (Err line) f = inl f

pub is_found : (ts : List Token) (o : Option ℕ) → o ≡ fault_line (walk [] ts) → MatchOption o (Balanced ts) (λ line. Unbalanced ts line)
is_found ts o e = subst (λ (v : Option ℕ). Answered ts v) (sym e) (answered ts (walk [] ts) (finds ts [] [] (walk [] ts) (none nothing) refl))

walk_stops : (s : Shape) (left : List Waiting) (t : Token) (ts : List Token) → Closes s t → (Awaits s left → ⊥) → walk left (t ∷ ts) ≡ Err t.line
walk_stops s [] t ts cs un = walk_alone s t ts cs
walk_stops s (w ∷ ws) t ts cs un = stops_by s w ws t ts cs un (same_shape w.shape s) refl
  where
    stops_by : (s : Shape) (w : Waiting) (ws : List Waiting) (t : Token) (ts : List Token) → Closes s t → (Awaits s (w ∷ ws) → ⊥) → (b : Bool) → same_shape w.shape s ≡ b
        → walk (w ∷ ws) (t ∷ ts) ≡ Err t.line
    stops_by s w ws t ts cs un true m = absurd (un (same_is w.shape s m))
    stops_by s w ws t ts cs un false m = walk_other s w ws t ts cs m

pub walk_all : {ts : List Token} {left : List Waiting} → Leaves ts left → walk [] ts ≡ Ok left
unfolding walk
walk_all {ts} {left} l = subst (λ (v : List Token). walk [] v ≡ Ok left) (append-nil ts) (leaves_walk l [])

pub only_by : (ts : List Token) (line : ℕ) → Unbalanced ts line → fault_line (walk [] ts) ≡ Some line
only_by ts line (inl m) =
    let w = leaves_walk m.leaves (m.close ∷ m.after) ∙ walk_stops m.shape m.left m.close m.after m.closes m.unmatched in
    rw (m.is, w, m.stands) refl
only_by ts line (inr u) = rw (walk_all u.leaves, u.stands) refl

pub is_only : (ts : List Token) (o : Option ℕ) → o ≡ fault_line (walk [] ts) → (line : ℕ) → Unbalanced ts line → o ≡ Some line
is_only ts o e line u = e ∙ only_by ts line u

-- ---- beside the loop

pub walk_turn : (left : List Waiting) (ts : List Token) (i : ℕ) (t : Token) → i < length ts → t ≡ get_or ts i t
    → walk left (drop i ts) ≡ walk_by (step (bracket_of t) t.line left) t.line (λ l. walk l (drop (i + 1) ts))
unfolding walk
walk_turn left ts i t lt is =
    let e : i + 1 ≡ suc i = omega arith in
    subst (λ (u : Token). walk left (drop i ts) ≡ walk_by (step (bracket_of u) u.line left) u.line (λ l. walk l (drop (i + 1) ts))) (sym is) (rw (e, drop-cons ts i t) refl)

pub walk_end : (left : List Waiting) (ts : List Token) (i : ℕ) → length ts ≤ i → walk left (drop i ts) ≡ Ok left
unfolding walk
walk_end left [] zero le = refl
walk_end left [] (suc i) le = refl
walk_end left (t ∷ ts) zero le = absurd (omega arith)
walk_end left (t ∷ ts) (suc i) le = walk_end left ts i (omega arith)

pub matched : (o : Option (List Waiting)) (left : List Waiting) (line : ℕ) (f : List Waiting → Result (List Waiting) ℕ) → o ≡ Some left → walk_by o line f ≡ f left
matched o left line f e = rw e refl

pub unmatched : (o : Option (List Waiting)) (line : ℕ) (f : List Waiting → Result (List Waiting) ℕ) → o ≡ None → walk_by o line f ≡ Err line
unmatched o line f e = rw e refl

-- the list of the code has the innermost bracket last
pub reverse_last : (xs : List Waiting) (x : Waiting) → reverse (xs ++ x ∷ []) ≡ x ∷ reverse xs
reverse_last xs x = reverse-append xs (x ∷ [])

pub walk_failed : (left : List Waiting) (ts : List Token) (i : ℕ) (t : Token) (b : Bool) (new : List Waiting) → i < length ts → t ≡ get_or ts i t
    → Stepped (step (bracket_of t) t.line left) b new → b ≡ false → walk left (drop i ts) ≡ Err t.line
walk_failed left ts i t b new lt is s e =
    let o : step (bracket_of t) t.line left ≡ None = subst (λ (v : Bool). Stepped (step (bracket_of t) t.line left) v new) e s in
    walk_turn left ts i t lt is ∙ unmatched _ t.line (λ l. walk l (drop (i + 1) ts)) o

pub walk_went : (left : List Waiting) (ts : List Token) (i : ℕ) (t : Token) (b : Bool) (new : List Waiting) → i < length ts → t ≡ get_or ts i t
    → Stepped (step (bracket_of t) t.line left) b new → b ≡ true → walk left (drop i ts) ≡ walk (reverse new) (drop (i + 1) ts)
walk_went left ts i t b new lt is s e =
    let o : step (bracket_of t) t.line left ≡ Some (reverse new) = subst (λ (v : Bool). Stepped (step (bracket_of t) t.line left) v new) e s in
    walk_turn left ts i t lt is ∙ matched _ (reverse new) t.line (λ l. walk l (drop (i + 1) ts)) o

pub all_only : (ts : List Token) (r : Result (Option ℕ) AllocError) → IfOk r (λ o. o ≡ fault_line (walk [] ts)) → IfOk r (λ o. (line : ℕ) → Unbalanced ts line → o ≡ Some line)
all_only ts (Ok o) e = is_only ts o e
all_only ts (Err e) h = tt
