-- The rounds find the depths, and the loops over members, pieces and declarations.
use Rattle.std.proofs.Common.{◌≡◌, ℕ, zero, suc, ◌+◌, ◌-◌, ◌<◌, ◌≤◌, Bool, true, false, not, ◌&&◌, cond, List, [], ◌∷◌, ◌++◌, Option, Some, None, length, take, drop, map, slice_get, refl, sym, ap, subst, ◌∙◌, arith, slice_index_or, drop-cons, append_assoc, append-nil, nat_lt, nat_le, ◌⊎◌, inl, inr}
use Rattle.std.specs.List.{list_all}
use Rattle.std.specs.Option.{option_to_list}
use Rattle.std.proofs.lemmas.Bool.{cases_Bool, leb-true, leb-false, le-leb}
use Rattle.swift_ast.specs.declared.piece.Source.{Source}
use Rattle.swift_ast.specs.declared.piece.Piece.{Piece}
use Rattle.swift_ast.specs.declared.piece.Member.{Member}
use Rattle.swift_core.specs.declared.ty.Ty.{Ty, out-Ty}
use Rattle.swift_core.specs.declared.ty.Ty.TheOpen.{Ty-F}
use Rattle.swift_core.specs.declared.table.Table.{Table}
use Rattle.swift_core.specs.declared.table.Signature.{Signature}
use Rattle.type_base.specs.Depth.{deepest}
use Rattle.type_twice.specs.Deep.{held_at, held_from, holds_from, holds, piece_held, declares_at, is_data_at, all_held, layer_fits, fits, declaration_fits, first_deep, recursive}
use Rattle.type_twice.specs.Rounds.{says_at, says, layer_by, fits_known, found_depth, next_depth, next_from, unknown, known_at, deep_known}

-- the two spellings of one more
suc-is : (i : ℕ) → suc i ≡ i + 1
suc-is i = omega arith

zero_plus : (d : ℕ) → 0 + d ≡ d
zero_plus d = omega arith

plus_zero : (at : ℕ) → at ≡ at + 0
plus_zero at = omega arith

suc_plus : (at d : ℕ) → suc at + d ≡ at + suc d
suc_plus at d = omega arith

suc_less : (n : ℕ) → n ≡ suc n - 1
suc_less n = omega arith

drop-turn : {X : Type 0} (xs : List X) (i : ℕ) (x : X) → i < length xs → x ≡ slice_index_or xs i x → drop i xs ≡ x ∷ drop (i + 1) xs
drop-turn xs i x lt e = drop-cons xs i x lt ∙ ap (λ y. y ∷ drop (suc i) xs) (sym e) ∙ ap (λ n. x ∷ drop n xs) (suc-is i)

drop_all : {X : Type 0} (xs : List X) (i : ℕ) → length xs ≤ i → drop i xs ≡ []
drop_all [] zero le = refl
drop_all [] (suc i) le = refl
drop_all (x ∷ xs) zero le = absurd (omega arith)
drop_all (x ∷ xs) (suc i) le = drop_all xs i (omega arith)

-- ---- what is held

pub held_turn : (table : Table) (ss : List Signature) (ms : List Member) (i : ℕ) (m : Member) (out : List Ty) → i < length ms → m ≡ slice_index_or ms i m
    → out ++ held_from table ss i (drop i ms) ≡ (out ++ option_to_list (held_at table (slice_get ss i) m.modifiers m.form)) ++ held_from table ss (i + 1) (drop (i + 1) ms)
held_turn table ss ms i m out lt e =
    ap (λ ys. out ++ held_from table ss i ys) (drop-turn ms i m lt e)
    ∙ ap (λ n. out ++ (option_to_list (held_at table (slice_get ss i) m.modifiers m.form) ++ held_from table ss n (drop (i + 1) ms))) (suc-is i)
    ∙ sym (append_assoc out (option_to_list (held_at table (slice_get ss i) m.modifiers m.form)) (held_from table ss (i + 1) (drop (i + 1) ms)))

pub held_end : (table : Table) (ss : List Signature) (ms : List Member) (i : ℕ) (out : List Ty) → length ms ≤ i → out ++ held_from table ss i (drop i ms) ≡ out
held_end table ss ms i out le = ap (λ ys. out ++ held_from table ss i ys) (drop_all ms i le) ∙ append-nil out

holds_at : (table : Table) (at : ℕ) (p : Piece) (ps : List Piece) (b : Bool) → declares_at p.form ≡ b
    → holds_from table at (p ∷ ps) ≡ cond b (piece_held table (slice_get table.declarations at) p.form ∷ holds_from table (suc at) ps) (holds_from table at ps)
holds_at table at p ps b e = ap (λ c. cond c (piece_held table (slice_get table.declarations at) p.form ∷ holds_from table (suc at) ps) (holds_from table at ps)) e

pub holds_turn : (table : Table) (ps : List Piece) (i : ℕ) (p : Piece) (out : List (List Ty)) → i < length ps → p ≡ slice_index_or ps i p → declares_at p.form ≡ true
    → out ++ holds_from table (length out) (drop i ps)
    ≡ (out ++ piece_held table (slice_get table.declarations (length out)) p.form ∷ []) ++ holds_from table (length (out ++ piece_held table (slice_get table.declarations (length out)) p.form ∷ [])) (drop (i + 1) ps)
holds_turn table ps i p out lt e d =
    ap (λ ys. out ++ holds_from table (length out) ys) (drop-turn ps i p lt e)
    ∙ ap (λ ys. out ++ ys) (holds_at table (length out) p (drop (i + 1) ps) true d)
    ∙ sym (append_assoc out (here ∷ []) (holds_from table (suc (length out)) (drop (i + 1) ps)))
    ∙ ap (λ n. (out ++ here ∷ []) ++ holds_from table n (drop (i + 1) ps)) (sym (length-push out here))
  where
    here : List Ty
    here = piece_held table (slice_get table.declarations (length out)) p.form

    length-push : {X : Type 0} (xs : List X) (x : X) → length (xs ++ x ∷ []) ≡ suc (length xs)
    length-push [] x = refl
    length-push (y ∷ ys) x = ap suc (length-push ys x)

pub holds_left : (table : Table) (ps : List Piece) (i : ℕ) (p : Piece) (out : List (List Ty)) → i < length ps → p ≡ slice_index_or ps i p → declares_at p.form ≡ false
    → out ++ holds_from table (length out) (drop i ps) ≡ out ++ holds_from table (length out) (drop (i + 1) ps)
holds_left table ps i p out lt e d =
    ap (λ ys. out ++ holds_from table (length out) ys) (drop-turn ps i p lt e) ∙ ap (λ ys. out ++ ys) (holds_at table (length out) p (drop (i + 1) ps) false d)

pub holds_end : (table : Table) (ps : List Piece) (i : ℕ) (out : List (List Ty)) → length ps ≤ i → out ++ holds_from table (length out) (drop i ps) ≡ out
holds_end table ps i out le = ap (λ ys. out ++ holds_from table (length out) ys) (drop_all ps i le) ∙ append-nil out

-- ---- a round

pub next_turn : (known : List ℕ) (n : ℕ) (hs : List (List Ty)) (i : ℕ) (ts : List Ty) (out : List ℕ) → i < length hs → ts ≡ slice_index_or hs i ts
    → out ++ next_from known n i (drop i hs) ≡ (out ++ next_depth known n (slice_get known i) ts ∷ []) ++ next_from known n (i + 1) (drop (i + 1) hs)
next_turn known n hs i ts out lt e =
    ap (λ ys. out ++ next_from known n i ys) (drop-turn hs i ts lt e)
    ∙ ap (λ m. out ++ (next_depth known n (slice_get known i) ts ∷ next_from known n m (drop (i + 1) hs))) (suc-is i)
    ∙ sym (append_assoc out (next_depth known n (slice_get known i) ts ∷ []) (next_from known n (i + 1) (drop (i + 1) hs)))

pub next_end : (known : List ℕ) (n : ℕ) (hs : List (List Ty)) (i : ℕ) (out : List ℕ) → length hs ≤ i → out ++ next_from known n i (drop i hs) ≡ out
next_end known n hs i out le = ap (λ ys. out ++ next_from known n i ys) (drop_all hs i le) ∙ append-nil out

pub fits_none : (known : List ℕ) (t : Ty) → fits_known known 0 t ≡ false
fits_none known t = refl

pub fits_some : (known : List ℕ) (n : ℕ) (t : Ty) → 0 < n → fits_known known n t ≡ layer_by (fits_known known (n - 1)) (says known n) (out-Ty t)
fits_some known zero t lt = absurd (omega arith)
fits_some known (suc n) t lt = ap (λ m. layer_by (fits_known known m) (says known (suc n)) (out-Ty t)) (suc_less n)

-- ---- the rounds find the depths

-- what is known of each declaration is so, up to n deep
record IsSo (hs : List (List Ty)) (known : List ℕ) (n : ℕ) : Type 0 where
  told : (m d : ℕ) → m ≤ n → says known m d ≡ declaration_fits hs m d
  within : (d k : ℕ) → slice_get known d ≡ Some k → k ≤ n

layer_same : (hs : List (List Ty)) (n : ℕ) (f g : Ty → Bool) (named : ℕ → Bool) → ((t : Ty) → f t ≡ g t) → ((d : ℕ) → named d ≡ all_held g (slice_get hs d)) → (l : Ty-F Ty) → layer_by f named l ≡ layer_fits hs g l
layer_same hs n f g named h k Ty-F.Int = refl
layer_same hs n f g named h k Ty-F.Bool = refl
layer_same hs n f g named h k Ty-F.Text = refl
layer_same hs n f g named h k (Ty-F.List t) = h t
layer_same hs n f g named h k (Ty-F.Optional t) = h t
layer_same hs n f g named h k (Ty-F.Named d) = k d

fits_same : (hs : List (List Ty)) (known : List ℕ) (n : ℕ) → IsSo hs known n → (m : ℕ) → m ≤ n → (t : Ty) → fits_known known m t ≡ fits hs m t
fits_same hs known n so zero le t = refl
fits_same hs known n so (suc m) le t =
    layer_same hs m (fits_known known m) (fits hs m) (says known (suc m)) (fits_same hs known n so m (omega arith)) (λ d. so.told (suc m) d le) (out-Ty t)

all_same : {X : Type 0} (f g : X → Bool) → ((x : X) → f x ≡ g x) → (xs : List X) → list_all f xs ≡ list_all g xs
all_same f g h [] = refl
all_same f g h (x ∷ xs) = ap (λ b. b && list_all f xs) (h x) ∙ ap (λ b. g x && b) (all_same f g h xs)

-- what is at most n deep is at most n + 1 deep
and_true : (b c : Bool) → (b && c) ≡ true → (b ≡ true) × (c ≡ true)
and_true true c e = (refl, e)
and_true false c e = cc

both_true : (b c : Bool) → b ≡ true → c ≡ true → (b && c) ≡ true
both_true b c e h = ap (λ x. x && c) e ∙ h

all_more : {X : Type 0} (f g : X → Bool) → ((x : X) → f x ≡ true → g x ≡ true) → (xs : List X) → list_all f xs ≡ true → list_all g xs ≡ true
all_more f g h [] e = refl
all_more f g h (x ∷ xs) e = let p = and_true (f x) (list_all f xs) e in both_true (g x) (list_all g xs) (h x p.0) (all_more f g h xs p.1)

held_more : (f g : Ty → Bool) → ((t : Ty) → f t ≡ true → g t ≡ true) → (o : Option (List Ty)) → all_held f o ≡ true → all_held g o ≡ true
held_more f g h None e = e
held_more f g h (Some ts) e = all_more f g h ts e

layer_more : (hs : List (List Ty)) (f g : Ty → Bool) → ((t : Ty) → f t ≡ true → g t ≡ true) → (l : Ty-F Ty) → layer_fits hs f l ≡ true → layer_fits hs g l ≡ true
layer_more hs f g h Ty-F.Int e = refl
layer_more hs f g h Ty-F.Bool e = refl
layer_more hs f g h Ty-F.Text e = refl
layer_more hs f g h (Ty-F.List t) e = h t e
layer_more hs f g h (Ty-F.Optional t) e = h t e
layer_more hs f g h (Ty-F.Named d) e = held_more f g h (slice_get hs d) e

fits_more : (hs : List (List Ty)) (n : ℕ) (t : Ty) → fits hs n t ≡ true → fits hs (suc n) t ≡ true
fits_more hs zero t e = cc
fits_more hs (suc n) t e = layer_more hs (fits hs n) (fits hs (suc n)) (fits_more hs n) (out-Ty t) e

declaration_more : (hs : List (List Ty)) (n d : ℕ) → declaration_fits hs n d ≡ true → declaration_fits hs (suc n) d ≡ true
declaration_more hs zero d e = cc
declaration_more hs (suc n) d e = held_more (fits hs n) (fits hs (suc n)) (fits_more hs n) (slice_get hs d) e

-- ---- places

next_place : (known : List ℕ) (n : ℕ) (hs : List (List Ty)) (at d : ℕ) (ts : List Ty) → slice_get hs d ≡ Some ts → slice_get (next_from known n at hs) d ≡ Some (next_depth known n (slice_get known (at + d)) ts)
next_place known n [] at d ts e = cc
next_place known n (h ∷ hs) at zero ts e =
    let same : h ≡ ts = cc in
    ap Some (ap (next_depth known n (slice_get known at)) same ∙ ap (λ i. next_depth known n (slice_get known i) ts) (plus_zero at))
next_place known n (h ∷ hs) at (suc d) ts e = next_place known n hs (suc at) d ts e ∙ ap (λ i. Some (next_depth known n (slice_get known i) ts)) (suc_plus at d)

next_none : (known : List ℕ) (n : ℕ) (hs : List (List Ty)) (at d : ℕ) → slice_get hs d ≡ None → slice_get (next_from known n at hs) d ≡ None
next_none known n [] at d e = refl
next_none known n (h ∷ hs) at zero e = cc
next_none known n (h ∷ hs) at (suc d) e = next_none known n hs (suc at) d e

unknown_says : (hs : List (List Ty)) (d : ℕ) → says (unknown hs) 0 d ≡ false
unknown_says [] d = refl
unknown_says (h ∷ hs) zero = refl
unknown_says (h ∷ hs) (suc d) = unknown_says hs d

lt_suc : (k : ℕ) → nat_lt 0 (suc k) ≡ true
lt_suc k = le-leb 1 (suc k) (omega arith)

le_false : (a b : ℕ) → b < a → nat_le a b ≡ false
le_false a b lt = elim (cases_Bool (nat_le a b)) [ inl t ↦ let h = leb-true a b t in absurd (omega arith) | inr f ↦ f ]

-- a depth that was found in this round
found_is : (n m : ℕ) (b : Bool) → m ≤ n → says_at (Some (found_depth n b)) m ≡ false
found_is n m true le = ap (λ c. nat_lt 0 (suc n) && c) (le_false (suc n) m (omega arith)) ∙ and_none (nat_lt 0 (suc n))
  where
    and_none : (c : Bool) → (c && false) ≡ false
    and_none true = refl
    and_none false = refl
found_is n m false le = refl

found_now : (n : ℕ) (b : Bool) → says_at (Some (found_depth n b)) (suc n) ≡ b
found_now n true = both_true (nat_lt 0 (suc n)) (nat_le (suc n) (suc n)) (lt_suc n) (le-leb (suc n) (suc n) (omega arith))
found_now n false = refl

known_is : (k m : ℕ) → says_at (Some (suc k)) m ≡ nat_le (suc k) m
known_is k m = ap (λ c. c && nat_le (suc k) m) (lt_suc k)

-- one declaration after one more round
was_known : (hs : List (List Ty)) (known : List ℕ) (n d k : ℕ) → IsSo hs known n → slice_get known d ≡ Some (suc k) → (m : ℕ) → m ≤ suc n → nat_le (suc k) m ≡ declaration_fits hs m d
was_known hs known n d k so g m le = by (cases_Bool (nat_le m n))
  where
    was : (m : ℕ) → says known m d ≡ nat_le (suc k) m
    was m = ap (λ o. says_at o m) g ∙ known_is k m

    by : (nat_le m n ≡ true) ⊎ (nat_le m n ≡ false) → nat_le (suc k) m ≡ declaration_fits hs m d
    by (inl t) = sym (was m) ∙ so.told m d (leb-true m n t)
    by (inr f) =
        let lt = leb-false m n f in
        let same : m ≡ suc n = omega arith in
        let low = so.within d (suc k) g in
        let fit : declaration_fits hs n d ≡ true = sym (so.told n d (omega arith)) ∙ was n ∙ le-leb (suc k) n low in
        le-leb (suc k) m (omega arith) ∙ sym (ap (λ i. declaration_fits hs i d) same ∙ declaration_more hs n d fit)

was_unknown : (hs : List (List Ty)) (known : List ℕ) (n d : ℕ) (ts : List Ty) → IsSo hs known n → slice_get hs d ≡ Some ts
    → ((m : ℕ) → says known m d ≡ false) → (m : ℕ) → m ≤ suc n → says_at (Some (found_depth n (list_all (fits_known known n) ts))) m ≡ declaration_fits hs m d
was_unknown hs known n d ts so e none m le = by (cases_Bool (nat_le m n))
  where
    by : (nat_le m n ≡ true) ⊎ (nat_le m n ≡ false) → says_at (Some (found_depth n (list_all (fits_known known n) ts))) m ≡ declaration_fits hs m d
    by (inl t) = found_is n m (list_all (fits_known known n) ts) (leb-true m n t) ∙ sym (none m) ∙ so.told m d (leb-true m n t)
    by (inr f) =
        let lt = leb-false m n f in
        let same : m ≡ suc n = omega arith in
        ap (says_at (Some (found_depth n (list_all (fits_known known n) ts)))) same
        ∙ found_now n (list_all (fits_known known n) ts)
        ∙ all_same (fits_known known n) (fits hs n) (fits_same hs known n so n (omega arith)) ts
        ∙ sym (ap (all_held (fits hs n)) e)
        ∙ ap (λ i. declaration_fits hs i d) (sym same)

one : (hs : List (List Ty)) (known : List ℕ) (n d : ℕ) (ts : List Ty) → IsSo hs known n → slice_get hs d ≡ Some ts
    → (o : Option ℕ) → slice_get known d ≡ o → (m : ℕ) → m ≤ suc n → says_at (Some (next_depth known n o ts)) m ≡ declaration_fits hs m d
one hs known n d ts so e (Some (suc k)) g m le = known_is k m ∙ was_known hs known n d k so g m le
one hs known n d ts so e None g m le = was_unknown hs known n d ts so e (λ m. ap (λ o. says_at o m) g) m le
one hs known n d ts so e (Some zero) g m le = was_unknown hs known n d ts so e (λ m. ap (λ o. says_at o m) g) m le

low : (hs : List (List Ty)) (known : List ℕ) (n d : ℕ) (ts : List Ty) → IsSo hs known n → (o : Option ℕ) → slice_get known d ≡ o → next_depth known n o ts ≤ suc n
low hs known n d ts so (Some (suc k)) g = let h = so.within d (suc k) g in omega arith
low hs known n d ts so None g = found_low (list_all (fits_known known n) ts)
  where
    found_low : (b : Bool) → found_depth n b ≤ suc n
    found_low true = omega arith
    found_low false = omega arith
low hs known n d ts so (Some zero) g = found_low (list_all (fits_known known n) ts)
  where
    found_low : (b : Bool) → found_depth n b ≤ suc n
    found_low true = omega arith
    found_low false = omega arith

-- no declaration has the number
outside : (hs : List (List Ty)) (m d : ℕ) → slice_get hs d ≡ None → declaration_fits hs m d ≡ false
outside hs zero d e = refl
outside hs (suc m) d e = ap (all_held (fits hs m)) e

more : (hs : List (List Ty)) (known : List ℕ) (n : ℕ) → IsSo hs known n → IsSo hs (next_from known n 0 hs) (suc n)
more hs known n so = record {
  told = λ m d le. told_by m d le (slice_get hs d) refl;
  within = λ d k e. within_by d k e (slice_get hs d) refl;
}
  where
    told_by : (m d : ℕ) → m ≤ suc n → (o : Option (List Ty)) → slice_get hs d ≡ o → says (next_from known n 0 hs) m d ≡ declaration_fits hs m d
    told_by m d le None e = ap (λ o. says_at o m) (next_none known n hs 0 d e) ∙ sym (outside hs m d e)
    told_by m d le (Some ts) e =
        ap (λ o. says_at o m) (next_place known n hs 0 d ts e ∙ ap (λ i. Some (next_depth known n (slice_get known i) ts)) (zero_plus d))
        ∙ one hs known n d ts so e (slice_get known d) refl m le

    within_by : (d k : ℕ) → slice_get (next_from known n 0 hs) d ≡ Some k → (o : Option (List Ty)) → slice_get hs d ≡ o → k ≤ suc n
    within_by d k e None h = let none = next_none known n hs 0 d h in cc
    within_by d k e (Some ts) h =
        let there : slice_get (next_from known n 0 hs) d ≡ Some (next_depth known n (slice_get known d) ts) = next_place known n hs 0 d ts h ∙ ap (λ i. Some (next_depth known n (slice_get known i) ts)) (zero_plus d) in
        let same : next_depth known n (slice_get known d) ts ≡ k = cc in
        subst (λ j. j ≤ suc n) same (low hs known n d ts so (slice_get known d) refl)

unknown_within : (hs : List (List Ty)) (d k : ℕ) → slice_get (unknown hs) d ≡ Some k → k ≤ 0
unknown_within [] d k e = cc
unknown_within (h ∷ hs) zero k e = let same : 0 ≡ k = cc in omega arith
unknown_within (h ∷ hs) (suc d) k e = unknown_within hs d k e

at_first : (hs : List (List Ty)) (m d : ℕ) → m ≤ 0 → says (unknown hs) m d ≡ declaration_fits hs m d
at_first hs zero d le = unknown_says hs d
at_first hs (suc m) d le = absurd (omega arith)

so_at : (hs : List (List Ty)) (n : ℕ) → IsSo hs (known_at hs n) n
so_at hs zero = record { told = at_first hs; within = unknown_within hs }
so_at hs (suc n) = more hs (known_at hs n) n (so_at hs n)

-- ---- the refusal

deep_at : (deep : ℕ → Bool) (at : ℕ) (p : Piece) (ps : List Piece) (a b : Bool) → declares_at p.form ≡ a → (is_data_at p.form && deep at) ≡ b
    → first_deep deep at (p ∷ ps) ≡ cond a (cond b (Some p.span.line) (first_deep deep (suc at) ps)) (first_deep deep at ps)
deep_at deep at p ps a b e f =
    ap (λ x. cond x (cond (is_data_at p.form && deep at) (Some p.span.line) (first_deep deep (suc at) ps)) (first_deep deep at ps)) e
    ∙ ap (λ x. cond a (cond x (Some p.span.line) (first_deep deep (suc at) ps)) (first_deep deep at ps)) f

pub deep_found : (known : List ℕ) (at : ℕ) (ps : List Piece) (i : ℕ) (p : Piece) → i < length ps → p ≡ slice_index_or ps i p → declares_at p.form ≡ true → (is_data_at p.form && deep_known known at) ≡ true
    → first_deep (deep_known known) at (drop i ps) ≡ Some p.span.line
deep_found known at ps i p lt e d h = ap (first_deep (deep_known known) at) (drop-turn ps i p lt e) ∙ deep_at (deep_known known) at p (drop (i + 1) ps) true true d h

pub deep_passed : (known : List ℕ) (at : ℕ) (ps : List Piece) (i : ℕ) (p : Piece) → i < length ps → p ≡ slice_index_or ps i p → declares_at p.form ≡ true → (is_data_at p.form && deep_known known at) ≡ false
    → first_deep (deep_known known) at (drop i ps) ≡ first_deep (deep_known known) (at + 1) (drop (i + 1) ps)
deep_passed known at ps i p lt e d h =
    ap (first_deep (deep_known known) at) (drop-turn ps i p lt e) ∙ deep_at (deep_known known) at p (drop (i + 1) ps) true false d h
    ∙ ap (λ n. first_deep (deep_known known) n (drop (i + 1) ps)) (suc-is at)

pub deep_other : (known : List ℕ) (at : ℕ) (ps : List Piece) (i : ℕ) (p : Piece) → i < length ps → p ≡ slice_index_or ps i p → declares_at p.form ≡ false
    → first_deep (deep_known known) at (drop i ps) ≡ first_deep (deep_known known) at (drop (i + 1) ps)
deep_other known at ps i p lt e d =
    ap (first_deep (deep_known known) at) (drop-turn ps i p lt e) ∙ deep_at (deep_known known) at p (drop (i + 1) ps) false (is_data_at p.form && deep_known known at) d refl

pub deep_end : (known : List ℕ) (at : ℕ) (ps : List Piece) (i : ℕ) → length ps ≤ i → first_deep (deep_known known) at (drop i ps) ≡ None
deep_end known at ps i le = ap (first_deep (deep_known known) at) (drop_all ps i le)

first_same : (f g : ℕ → Bool) → ((d : ℕ) → f d ≡ g d) → (at : ℕ) (ps : List Piece) → first_deep f at ps ≡ first_deep g at ps
first_same f g h at [] = refl
first_same f g h at (p ∷ ps) =
    ap (λ c. cond (declares_at p.form) (cond (is_data_at p.form && c) (Some p.span.line) (first_deep f (suc at) ps)) (first_deep f at ps)) (h at)
    ∙ ap (λ r. cond (declares_at p.form) (cond (is_data_at p.form && g at) (Some p.span.line) r) (first_deep f at ps)) (first_same f g h (suc at) ps)
    ∙ ap (λ r. cond (declares_at p.form) (cond (is_data_at p.form && g at) (Some p.span.line) (first_deep g (suc at) ps)) r) (first_same f g h at ps)

-- what is not known after as many rounds as a type may be deep is deeper
pub recursive_is : (source : Source) (table : Table) → first_deep (deep_known (known_at (holds source table) deepest)) 0 source.pieces ≡ recursive source table
unfolding recursive deepest deep_known
recursive_is source table =
    first_same (deep_known (known_at (holds source table) 64)) (λ d. not (declaration_fits (holds source table) 64 d))
    (λ d. ap not ((so_at (holds source table) 64).told 64 d (omega arith))) 0 source.pieces
