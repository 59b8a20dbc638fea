-- The balanced text at the front, and that it is the only one.
use Rattle.std.proofs.Common.{◌≡◌, ℕ, zero, suc, ◌+◌, ◌<◌, ◌≤◌, length, get_or, take, drop, drop-cons, arith, Bool, true, false, cond, List, [], ◌∷◌, ◌++◌, refl, sym, ap, subst, ◌∙◌, append_assoc, length-append, inl, inr, ◌⊎◌}
use Rattle.std.specs.Prelude.{Option, Some, None, Result, Ok, Err, IfOk, IfSome, reverse}
use Rattle.std.specs.declared.alloc.AllocError.{AllocError}
use Rattle.std.proofs.lemmas.List.{append-nil, take-append-drop}
use Rattle.swift_lex.specs.declared.token.Token.{Token}
use Rattle.token_brackets.specs.declared.brackets.Shape.{Shape}
use Rattle.token_brackets.specs.declared.brackets.Bracket.{Bracket}
use Rattle.token_brackets.specs.declared.brackets.Bracket.TheVariants as bracket
use Rattle.token_brackets.specs.declared.partners.Waiting.{Waiting}
use Rattle.token_brackets.specs.declared.prefix.Step.{Step}
use Rattle.token_brackets.specs.declared.prefix.Step.TheVariants as step
use Rattle.token_brackets.specs.Brackets.{bracket_of, IsPlain, Opens, Closes}
use Rattle.token_brackets.specs.Balance.{Balanced, nothing, plain, pair, Leaves, none, more, waiting}
use Rattle.token_brackets.specs.Machine.{same_shape}
use Rattle.token_brackets.specs.Depth.{closes_by, is_closing}
use Rattle.token_brackets.specs.Prefix.{is_stop, IsFront, end_answer, Move, ends, goes, fails, close_move, move, one_more, len_by_move, at_end, front_len, balanced_len, Moved}
use Rattle.token_brackets.proofs.Walks.{same_self, same_is, balanced_append, leaves_append, leaves_close, leaves_open, leaves_none}

-- n tokens more
abbrev pub plus : ℕ → Option ℕ → Option ℕ
plus zero o = o
plus (suc n) o = one_more (plus n o)

plus_plus : (m n k : ℕ) (o : Option ℕ) → k ≡ m + n → plus m (plus n o) ≡ plus k o
plus_plus zero n k o e = let same : n ≡ k = omega arith in ap (λ v. plus v o) same
plus_plus (suc m) n zero o e = absurd (omega arith)
plus_plus (suc m) n (suc k) o e = ap one_more (plus_plus m n k o (omega arith))

plus_some : (n : ℕ) → plus n (Some 0) ≡ Some n
plus_some zero = refl
plus_some (suc n) = ap one_more (plus_some n)

-- one token of each kind

front_plain : (left : List Waiting) (t : Token) (ts : List Token) → IsPlain t → front_len left (t ∷ ts) ≡ one_more (front_len left ts)
unfolding front_len
front_plain left t ts e = rw e refl

front_open : (s : Shape) (left : List Waiting) (t : Token) (ts : List Token) → Opens s t → front_len left (t ∷ ts) ≡ one_more (front_len (waiting s t.line ∷ left) ts)
unfolding front_len
front_open s left t ts e = rw e refl

front_close : (s : Shape) (left : List Waiting) (line : ℕ) (t : Token) (ts : List Token) → Closes s t → front_len (waiting s line ∷ left) (t ∷ ts) ≡ one_more (front_len left ts)
unfolding front_len
front_close s left line t ts e = rw (e, same_self s) refl

-- a balanced text counts whole
front_skip : {xs : List Token} → Balanced xs → (left : List Waiting) (ys : List Token) → front_len left (xs ++ ys) ≡ plus (length xs) (front_len left ys)
front_skip nothing left ys = refl
front_skip (plain {t} {ts} p b) left ys = front_plain left t (ts ++ ys) p ∙ ap one_more (front_skip b left ys)
front_skip (pair s o c inside after os bi cs ba) left ys =
    front_open s left o ((inside ++ c ∷ after) ++ ys) os
    ∙ ap (λ (v : List Token). one_more (front_len (waiting s o.line ∷ left) v)) (append_assoc inside (c ∷ after) ys)
    ∙ ap one_more (front_skip bi (waiting s o.line ∷ left) (c ∷ (after ++ ys)))
    ∙ ap (λ v. one_more (plus (length inside) v)) (front_close s left o.line c (after ++ ys) cs ∙ ap one_more (front_skip ba left ys))
    ∙ ap one_more (plus_plus (length inside) (suc (length after)) (length (inside ++ c ∷ after)) (front_len left ys) (length-append inside (c ∷ after)))

front_stops : (ts : List Token) → is_stop ts ≡ true → front_len [] ts ≡ Some 0
unfolding front_len
front_stops [] e = refl
front_stops (t ∷ ts) e = by_kind (bracket_of t) refl
  where
    by_kind : (o : Option Bracket) → bracket_of t ≡ o → len_by_move (move (bracket_of t) t.line []) (λ l. front_len l ts) ≡ Some 0
    by_kind None is = let off : closes_by (bracket_of t) ≡ false = rw is refl in absurd cc
    by_kind (Some (bracket.Opens s)) is = let off : closes_by (bracket_of t) ≡ false = rw is refl in absurd cc
    by_kind (Some (bracket.Closes s)) is = rw is refl

pub front_is : {xs : List Token} (ys : List Token) → Balanced xs → is_stop ys ≡ true → balanced_len (xs ++ ys) ≡ Some (length xs)
front_is {xs} ys b e = front_skip b [] ys ∙ ap (plus (length xs)) (front_stops ys e) ∙ plus_some (length xs)

-- ---- the other way

-- n tokens close all brackets, and there the front ends
record Front (before ts : List Token) (n : ℕ) : Type 0 where
  within : n ≤ length ts
  leaves : Leaves (before ++ take n ts) []
  stops : is_stop (drop n ts) ≡ true

abbrev Fronts : List Token → Type 0
Fronts ts = (before : List Token) (left : List Waiting) (n : ℕ) → Leaves before left → front_len left ts ≡ Some n → Front before ts n

some_number : (a b : ℕ) → ◌≡◌ {A = Option ℕ} (Some a) (Some b) → a ≡ b
some_number a b e = cc

-- what is found behind one token more
one_front : (before : List Token) (left new : List Waiting) (t : Token) (ts : List Token) (n : ℕ) → Fronts ts → Leaves (before ++ t ∷ []) new
    → (o : Option ℕ) → front_len new ts ≡ o → one_more o ≡ Some n → Front before (t ∷ ts) n
one_front before left new t ts n later l None is e = absurd cc
one_front before left new t ts n later l (Some m) is e =
    let f = later (before ++ t ∷ []) new m l is in
    let more = subst (λ (v : List Token). Leaves v []) (append_assoc before (t ∷ []) (take m ts)) f.leaves in
    subst (λ v. Front before (t ∷ ts) v) (some_number (suc m) n e) (record { within = let le = f.within in omega arith; leaves = more; stops = f.stops })

none_front : (before : List Token) (ts : List Token) → Leaves before [] → is_stop ts ≡ true → Front before ts 0
none_front before ts l e = record { within = omega arith; leaves = subst (λ (v : List Token). Leaves v []) (sym (append-nil before)) l; stops = e }

fronts_close : (s : Shape) (before : List Token) (w : Waiting) (ws : List Waiting) (t : Token) (ts : List Token) (n : ℕ) → Fronts ts → Leaves before (w ∷ ws) → Closes s t
    → front_len (w ∷ ws) (t ∷ ts) ≡ Some n → (b : Bool) → same_shape w.shape s ≡ b → Front before (t ∷ ts) n
unfolding front_len
fronts_close s before w ws t ts n later l cs e true m =
    let goes_on : front_len (w ∷ ws) (t ∷ ts) ≡ one_more (front_len ws ts) = rw (cs, m) refl in
    one_front before (w ∷ ws) ws t ts n later (leaves_close t l (subst (λ (v : Shape). Closes v t) (sym (same_is w.shape s m)) cs)) (front_len ws ts) refl (sym goes_on ∙ e)
fronts_close s before w ws t ts n later l cs e false m =
    let stuck : front_len (w ∷ ws) (t ∷ ts) ≡ None = rw (cs, m) refl in
    let never : ◌≡◌ {A = Option ℕ} None (Some n) = sym stuck ∙ e in
    absurd cc

fronts_step : (before : List Token) (left : List Waiting) (t : Token) (ts : List Token) (n : ℕ) → Fronts ts → Leaves before left
    → front_len left (t ∷ ts) ≡ Some n → (o : Option Bracket) → bracket_of t ≡ o → Front before (t ∷ ts) n
unfolding front_len
fronts_step before left t ts n later l e None is =
    one_front before left left t ts n later (leaves_append l (plain is nothing)) (front_len left ts) refl (sym (front_plain left t ts is) ∙ e)
fronts_step before left t ts n later l e (Some (bracket.Opens s)) is =
    one_front before left (waiting s t.line ∷ left) t ts n later (leaves_open s t l is) (front_len (waiting s t.line ∷ left) ts) refl (sym (front_open s left t ts is) ∙ e)
fronts_step before [] t ts n later l e (Some (bracket.Closes s)) is =
    let stop : is_stop (t ∷ ts) ≡ true = rw is refl in
    subst (λ v. Front before (t ∷ ts) v) (some_number 0 n (sym (front_stops (t ∷ ts) stop) ∙ e)) (none_front before (t ∷ ts) l stop)
fronts_step before (w ∷ ws) t ts n later l e (Some (bracket.Closes s)) is = fronts_close s before w ws t ts n later l is e (same_shape w.shape s) refl

fronts_end : (before : List Token) (left : List Waiting) (n : ℕ) → Leaves before left → front_len left [] ≡ Some n → Front before [] n
unfolding front_len
fronts_end before [] n l e = subst (λ v. Front before [] v) (some_number 0 n e) (none_front before [] l refl)
fronts_end before (w ∷ ws) n l e = absurd cc

fronts : (ts : List Token) → Fronts ts
fronts [] before left n l e = fronts_end before left n l e
fronts (t ∷ ts) before left n l e = fronts_step before left t ts n (fronts ts) l e (bracket_of t) refl

pub front_found : (ts : List Token) (n : ℕ) → balanced_len ts ≡ Some n → IsFront ts n
front_found ts n e = let f = fronts ts [] [] n (none nothing) e in record { within = f.within; balanced = leaves_none f.leaves; stops = f.stops }

pub is_front : (ts : List Token) (o : Option ℕ) → o ≡ balanced_len ts → IfSome o (IsFront ts)
is_front ts None e = tt
is_front ts (Some n) e = front_found ts n (sym e)

pub all_fronts : (ts : List Token) (r : Result (Option ℕ) AllocError) → IfOk r (λ o. o ≡ balanced_len ts) → IfOk r (λ o. IfSome o (IsFront ts))
all_fronts ts (Ok o) e = is_front ts o e
all_fronts ts (Err e) h = tt

pub only_front : (ts : List Token) (n : ℕ) → IsFront ts n → balanced_len ts ≡ Some n
only_front ts n f =
    let le = f.within in let b = f.balanced in let stop = f.stops in
    let whole : take n ts ++ drop n ts ≡ ts = take-append-drop n ts in
    let size : length (take n ts) ≡ n = length_taken n ts le in
    subst (λ (v : List Token). balanced_len v ≡ Some n) whole (front_is (drop n ts) b stop ∙ ap (λ v. Some v) size)
  where
    length_taken : (n : ℕ) (ts : List Token) → n ≤ length ts → length (take n ts) ≡ n
    length_taken zero ts le = refl
    length_taken (suc n) [] le = absurd (omega arith)
    length_taken (suc n) (t ∷ ts) le = ap suc (length_taken n ts (omega arith))

pub all_only_front : (ts : List Token) (r : Result (Option ℕ) AllocError) → IfOk r (λ o. o ≡ balanced_len ts) → IfOk r (λ o. (n : ℕ) → IsFront ts n → o ≡ Some n)
all_only_front ts (Ok o) e = λ n f. e ∙ only_front ts n f
all_only_front ts (Err e) h = tt

-- ---- beside the loop

pub front_turn : (left : List Waiting) (ts : List Token) (i : ℕ) (t : Token) → i < length ts → t ≡ get_or ts i t
    → front_len left (drop i ts) ≡ len_by_move (move (bracket_of t) t.line left) (λ l. front_len l (drop (i + 1) ts))
unfolding front_len
front_turn left ts i t lt is =
    let e : i + 1 ≡ suc i = omega arith in
    subst (λ (u : Token). front_len left (drop i ts) ≡ len_by_move (move (bracket_of u) u.line left) (λ l. front_len l (drop (i + 1) ts))) (sym is) (rw (e, drop-cons ts i t) refl)

-- so many tokens were gone through, with these brackets left to close
pub record FrontAt (ts : List Token) (left : List Waiting) (i : ℕ) : Type 0 where
  pub same : balanced_len ts ≡ plus i (front_len left (drop i ts))

pub front_begins : (ts : List Token) → FrontAt ts [] 0
front_begins ts = record { same = refl }

-- one more at the end is one more at the front
plus_one : (n : ℕ) (o : Option ℕ) → plus n (one_more o) ≡ one_more (plus n o)
plus_one zero o = refl
plus_one (suc n) o = ap one_more (plus_one n o)

pub front_goes : (ts : List Token) (left new : List Waiting) (i : ℕ) (t : Token) → i < length ts → t ≡ get_or ts i t → FrontAt ts left i
    → Moved (move (bracket_of t) t.line left) step.Goes new → FrontAt ts (reverse new) (i + 1)
front_goes ts left new i t lt is h m =
    let turn : front_len left (drop i ts) ≡ one_more (front_len (reverse new) (drop (i + 1) ts)) = front_turn left ts i t lt is ∙ ap (λ v. len_by_move v (λ l. front_len l (drop (i + 1) ts))) m in
    let e : i + 1 ≡ suc i = omega arith in
    let last : plus (suc i) (front_len (reverse new) (drop (i + 1) ts)) ≡ plus (i + 1) (front_len (reverse new) (drop (i + 1) ts)) = ap (λ v. plus v (front_len (reverse new) (drop (i + 1) ts))) (sym e) in
    record { same = h.same ∙ ap (plus i) turn ∙ plus_one i (front_len (reverse new) (drop (i + 1) ts)) ∙ last }

pub front_ends : (ts : List Token) (left new : List Waiting) (i : ℕ) (t : Token) → i < length ts → t ≡ get_or ts i t → FrontAt ts left i
    → Moved (move (bracket_of t) t.line left) step.Ends new → Some i ≡ balanced_len ts
front_ends ts left new i t lt is h m =
    let turn : front_len left (drop i ts) ≡ Some 0 = front_turn left ts i t lt is ∙ ap (λ v. len_by_move v (λ l. front_len l (drop (i + 1) ts))) m in
    sym (h.same ∙ ap (plus i) turn ∙ plus_some i)

plus_none : (n : ℕ) → plus n None ≡ None
plus_none zero = refl
plus_none (suc n) = ap one_more (plus_none n)

pub front_fails : (ts : List Token) (left new : List Waiting) (i : ℕ) (t : Token) → i < length ts → t ≡ get_or ts i t → FrontAt ts left i
    → Moved (move (bracket_of t) t.line left) step.Fails new → None ≡ balanced_len ts
front_fails ts left new i t lt is h m =
    let turn : front_len left (drop i ts) ≡ None = front_turn left ts i t lt is ∙ ap (λ v. len_by_move v (λ l. front_len l (drop (i + 1) ts))) m in
    sym (h.same ∙ ap (plus i) turn ∙ plus_none i)

drop_all : (ts : List Token) (i : ℕ) → length ts ≤ i → drop i ts ≡ []
drop_all [] zero le = refl
drop_all [] (suc i) le = refl
drop_all (t ∷ ts) zero le = absurd (omega arith)
drop_all (t ∷ ts) (suc i) le = drop_all ts i (omega arith)

end_is : (left : List Waiting) (i : ℕ) → plus i (front_len left []) ≡ end_answer left i
unfolding front_len
end_is [] i = plus_some i
end_is (w ∷ ws) i = plus_none i

pub front_end : (ts : List Token) (left : List Waiting) (i : ℕ) → length ts ≤ i → i ≤ length ts → FrontAt ts left i → balanced_len ts ≡ end_answer left (length ts)
front_end ts left i le ge h =
    let same : i ≡ length ts = omega arith in
    h.same ∙ ap (λ (v : List Token). plus i (front_len left v)) (drop_all ts i le) ∙ end_is left i ∙ ap (end_answer left) same
