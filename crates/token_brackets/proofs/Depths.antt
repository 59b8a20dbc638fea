-- The loop over the depths, and what it says of the text.
use Rattle.std.proofs.Common.{◌≡◌, ℕ, ◌+◌, ◌-◌, ◌<◌, ◌≤◌, length, get_or, take, arith, Bool, true, false, cond, ◌&&◌, List, [], refl, sym, ap, ◌∙◌, below_more, inl, inr, ◌⊎◌}
use Rattle.std.specs.Prelude.{Option, Some, None, MatchOption, nat_le, slice_get, count_by}
use Rattle.std.proofs.lemmas.Option.{slice_get_read, slice_get_within}
use Rattle.std.proofs.lemmas.List.Sums.{count_by_more_no, count_by_more_yes}
use Rattle.std.proofs.lemmas.Bool.{cases_lt}
use Rattle.std.proofs.lemmas.Bool.Decides.{nat_tests}
use Rattle.swift_lex.specs.declared.token.Token.{Token}
use Rattle.token_brackets.specs.declared.brackets.Bracket.{Bracket}
use Rattle.token_brackets.specs.declared.brackets.Bracket.TheVariants as bracket
use Rattle.token_brackets.specs.declared.nesting.Counts.{Counts}
use Rattle.token_brackets.specs.Brackets.{bracket_of}
use Rattle.token_brackets.specs.Counting.{counted}
use Rattle.token_brackets.specs.Depth.{opens_by, closes_by, is_opening, is_closing, IsDeep, IsShallow, TooNested}

-- the counts of a text
pub record Counted (ts : List Token) (c : Counts) : Type 0 where
  pub opened : c.opened ≡ count_by is_opening ts
  pub closed : c.closed ≡ count_by is_closing ts

counts_open : (b : Option Bracket) (c : Counts) → (counted b c).opened ≡ c.opened + cond (opens_by b) 1 0
counts_open None c = omega arith
counts_open (Some (bracket.Opens s)) c = refl
counts_open (Some (bracket.Closes s)) c = omega arith

counts_close : (b : Option Bracket) (c : Counts) → (counted b c).closed ≡ c.closed + cond (closes_by b) 1 0
counts_close None c = omega arith
counts_close (Some (bracket.Opens s)) c = omega arith
counts_close (Some (bracket.Closes s)) c = refl

count_by_more : (p : Token → Bool) (ts : List Token) (i : ℕ) (t : Token) → i < length ts → t ≡ get_or ts i t → (b : Bool) → p t ≡ b
    → count_by p (take (i + 1) ts) ≡ count_by p (take i ts) + cond b 1 0
count_by_more p ts i t lt is true e = count_by_more_yes p ts i t lt (ap p (sym is) ∙ e)
count_by_more p ts i t lt is false e = let m = count_by_more_no p ts i t lt (ap p (sym is) ∙ e) in omega (arith, m)

pub counted_more : (ts : List Token) (i : ℕ) (t : Token) (c : Counts) → i < length ts → t ≡ get_or ts i t → Counted (take i ts) c → Counted (take (i + 1) ts) (counted (bracket_of t) c)
counted_more ts i t c lt is h = record {
  opened = counts_open (bracket_of t) c ∙ ap (λ n. n + cond (is_opening t) 1 0) h.opened ∙ sym (count_by_more is_opening ts i t lt is (is_opening t) refl);
  closed = counts_close (bracket_of t) c ∙ ap (λ n. n + cond (is_closing t) 1 0) h.closed ∙ sym (count_by_more is_closing ts i t lt is (is_closing t) refl);
}

pub counted_none : Counted [] (record { opened = 0; closed = 0 })
counted_none = record { opened = refl; closed = refl }

-- the test of the code, and the question
and_both : (a b : Bool) → (a && b) ≡ true → (a ≡ true) × (b ≡ true)
and_both true true e = (refl, refl)
and_both true false e = absurd cc
and_both false b e = absurd cc

le_true : (m n : ℕ) → nat_le m n ≡ true → m ≤ n
le_true m n e = grind (arith, nat_tests)

true_le : (m n : ℕ) → m ≤ n → nat_le m n ≡ true
true_le m n h = grind (arith, nat_tests)

abbrev pub deep_test : ℕ → Token → Counts → Bool
deep_test n t c = is_opening t && nat_le n (c.opened - c.closed)

pub deep_here : (n : ℕ) (ts : List Token) (i : ℕ) (t : Token) (c : Counts) → i < length ts → t ≡ get_or ts i t → Counted (take i ts) c → deep_test n t c ≡ true → IsDeep n ts i t
deep_here n ts i t c lt is h e =
    let two = and_both (is_opening t) (nat_le n (c.opened - c.closed)) e in
    let le : n ≤ c.opened - c.closed = le_true _ _ two.1 in
    record { at = slice_get_read ts (length ts) i t refl lt is; opening = two.0; deep = rw (← h.opened, ← h.closed) le }

item_is : (ts : List Token) (i : ℕ) (t u : Token) → i < length ts → t ≡ get_or ts i t → slice_get ts i ≡ Some u → t ≡ u
item_is ts i t u lt is e = let r = slice_get_read ts (length ts) i t refl lt is in some_is t u (sym r ∙ e)
  where
    some_is : (x y : Token) → ◌≡◌ {A = Option Token} (Some x) (Some y) → x ≡ y
    some_is x y e = cc

pub shallow_here : (n : ℕ) (ts : List Token) (i : ℕ) (t : Token) (c : Counts) → i < length ts → t ≡ get_or ts i t → Counted (take i ts) c → deep_test n t c ≡ false
    → (u : Token) → IsDeep n ts i u → ⊥
shallow_here n ts i t c lt is h e u d =
    let same : t ≡ u = item_is ts i t u lt is d.at in
    let opening : is_opening t ≡ true = ap is_opening same ∙ d.opening in
    let le : n ≤ c.opened - c.closed = rw (h.opened, h.closed) d.deep in
    let test : nat_le n (c.opened - c.closed) ≡ true = true_le n (c.opened - c.closed) le in
    let whole : deep_test n t c ≡ true = rw (opening, test) refl in
    absurd cc

-- nothing is deep up to a place
abbrev pub ShallowTo : ℕ → List Token → ℕ → Type 0
ShallowTo n ts i = (k : ℕ) → k < i → (t : Token) → IsDeep n ts k t → ⊥

pub shallow_more : (n : ℕ) (ts : List Token) (i : ℕ) (t : Token) (c : Counts) → i < length ts → t ≡ get_or ts i t → Counted (take i ts) c → deep_test n t c ≡ false
    → ShallowTo n ts i → ShallowTo n ts (i + 1)
shallow_more n ts i t c lt is h e below = below_more _ _ below (shallow_here n ts i t c lt is h e)

pub all_shallow : (n : ℕ) (ts : List Token) (i : ℕ) → length ts ≤ i → ShallowTo n ts i → IsShallow n ts
all_shallow n ts i le below k t d = let in_ : k < length ts = slice_get_within ts k t d.at in below k (omega arith) t d

pub first_deep : (n : ℕ) (ts : List Token) (i : ℕ) (t : Token) (c : Counts) → i < length ts → t ≡ get_or ts i t → Counted (take i ts) c → deep_test n t c ≡ true
    → ShallowTo n ts i → TooNested n ts t.line
first_deep n ts i t c lt is h e below = record { place = i; first = t; deep = deep_here n ts i t c lt is h e; none_before = λ k u k_lt d. below k k_lt u d; stands = refl }

some_token : (x y : Token) → ◌≡◌ {A = Option Token} (Some x) (Some y) → x ≡ y
some_token x y e = cc

firsts_meet : (n : ℕ) (ts : List Token) (a b : ℕ) (d : TooNested n ts a) (e : TooNested n ts b) → (d.place < e.place) ⊎ ((d.place ≡ e.place) ⊎ (e.place < d.place)) → a ≡ b
firsts_meet n ts a b d e (inl lt) = absurd (e.none_before d.place d.first lt d.deep)
firsts_meet n ts a b d e (inr (inr lt)) = absurd (d.none_before e.place e.first lt e.deep)
firsts_meet n ts a b d e (inr (inl same)) =
    let at : slice_get ts d.place ≡ Some e.first = ap (slice_get ts) same ∙ e.deep.at in
    let first : d.first ≡ e.first = some_token d.first e.first (sym d.deep.at ∙ at) in
    d.stands ∙ ap (λ (t : Token). t.line) first ∙ sym e.stands

three : (a b : ℕ) → (a < b) ⊎ ((a ≡ b) ⊎ (b < a))
three a b = elim (cases_lt a b) [ inl lt ↦ inl lt | inr le ↦ inr (elim (cases_lt b a) [ inl lt ↦ inr lt | inr ge ↦ inl (omega arith) ]) ]

pub one_line : (n : ℕ) (ts : List Token) (a b : ℕ) → TooNested n ts a → TooNested n ts b → a ≡ b
one_line n ts a b d e = firsts_meet n ts a b d e (three d.place e.place)

pub only_line : (n : ℕ) (ts : List Token) (o : Option ℕ) → MatchOption o (IsShallow n ts) (λ line. TooNested n ts line) → (line : ℕ) → TooNested n ts line → o ≡ Some line
only_line n ts None h line d = absurd (h d.place d.first d.deep)
only_line n ts (Some a) h line d = ap (λ l. Some l) (one_line n ts a line h d)
