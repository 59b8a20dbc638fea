-- The sign that the code finds is the longest.
use Rattle.std.proofs.Common.{◌≡◌, ℕ, zero, suc, ◌<◌, ◌≤◌, Bool, true, false, cond, ◌&&◌, ◌||◌, ◌⊎◌, inl, inr, List, [], ◌∷◌, length, take, refl, sym, ◌∙◌, ap, subst, arith}
use Rattle.std.specs.Prelude.{nat_eq, map}
use Rattle.std.specs.List.{list_all, list_any}
use Rattle.std.proofs.lemmas.Bool.{eqb-true}
use Rattle.std.proofs.Math.Dec.{eqb-suc-zero}
use Rattle.std.proofs.lemmas.List.{length-take, length-take-le}
use Rattle.std.proofs.lemmas.Slice.Eq.{bytes_eq-Decides}
use Rattle.swift_lex.specs.Spellings.{same, is_among, begins_with, three, two, one}
use Rattle.swift_lex.specs.Runs.{first_word, word_len, one_len, two_len, or_else, sign_len}
use Rattle.swift_lex.specs.Words.{single, is_sign, is_mark}
use Rattle.swift_lex.proofs.WordLemmas.{either_bool}

-- all words of a list have this length
abbrev pub AllLong : ℕ → List (List ℕ) → Type 0
AllLong k words = list_all (λ (w : List ℕ). nat_eq (length w) k) words ≡ true

and_first : (a b : Bool) → (a && b) ≡ true → a ≡ true
and_first true b e = refl
and_first false b e = e

and_second : (a b : Bool) → (a && b) ≡ true → b ≡ true
and_second true b e = e
and_second false b e = absurd cc

or_split : (a b : Bool) → (a || b) ≡ true → (a ≡ true) ⊎ (b ≡ true)
or_split true b e = inl refl
or_split false b e = inr e

or_right : (a b : Bool) → b ≡ true → (a || b) ≡ true
or_right true b e = refl
or_right false b e = e

same_is : (v w : List ℕ) → same v w ≡ true → v ≡ w
same_is v w e = (bytes_eq-Decides v w).0 e

is_same : (v w : List ℕ) → v ≡ w → same v w ≡ true
is_same v w e = (bytes_eq-Decides v w).1 e

among_length : (k : ℕ) (words : List (List ℕ)) (w : List ℕ) → AllLong k words → is_among words w ≡ true → length w ≡ k
among_length k [] w all e = absurd cc
among_length k (v ∷ vs) w all e =
    elim (or_split (same w v) (is_among vs w) e) [
      | inl h ↦ ap (λ (x : List ℕ). length x) (same_is w v h) ∙ eqb-true (length v) k (and_first (nat_eq (length v) k) (list_all (λ (x : List ℕ). nat_eq (length x) k) vs) all)
      | inr h ↦ among_length k vs w (and_second (nat_eq (length v) k) (list_all (λ (x : List ℕ). nat_eq (length x) k) vs) all) h
    ]

-- the length of the first of the words that stands at the front
abbrev pub found_len : List (List ℕ) → List ℕ → ℕ
found_len words bs = word_len (first_word words bs)

found_len_by : (v : List ℕ) (vs : List (List ℕ)) (bs : List ℕ) (t : Bool) → begins_with v bs ≡ t → found_len (v ∷ vs) bs ≡ cond t (length v) (found_len vs bs)
found_len_by v vs bs true e = rw e refl
found_len_by v vs bs false e = rw e refl

begins_taken : (v bs : List ℕ) → begins_with v bs ≡ true → take (length v) bs ≡ v
begins_taken v bs e = sym ((bytes_eq-Decides v (take (length v) bs)).0 e)

taken_begins : (v bs : List ℕ) (k : ℕ) → length v ≡ k → take k bs ≡ v → begins_with v bs ≡ true
taken_begins v bs k len e = (bytes_eq-Decides v (take (length v) bs)).1 (sym (subst (λ (n : ℕ). take n bs ≡ v) (sym len) e))

pub first_found : (k : ℕ) (words : List (List ℕ)) (bs : List ℕ) → AllLong k words → is_among words (take k bs) ≡ true → found_len words bs ≡ k
first_found k [] bs all e = absurd cc
first_found k (v ∷ vs) bs all e =
    let len : length v ≡ k = eqb-true (length v) k (and_first (nat_eq (length v) k) (list_all (λ (x : List ℕ). nat_eq (length x) k) vs) all) in
    elim (either_bool (begins_with v bs)) [
      | inl h ↦ found_len_by v vs bs true h ∙ len
      | inr h ↦
          elim (or_split (same (take k bs) v) (is_among vs (take k bs)) e) [
            | inl s ↦ let t : begins_with v bs ≡ true = taken_begins v bs k len (same_is (take k bs) v s) in absurd cc
            | inr s ↦ found_len_by v vs bs false h ∙ first_found k vs bs (and_second (nat_eq (length v) k) (list_all (λ (x : List ℕ). nat_eq (length x) k) vs) all) s
          ]
    ]

-- nothing of the list is found, or one of its words
pub first_taken : (k : ℕ) (words : List (List ℕ)) (bs : List ℕ) → AllLong k words → (found_len words bs ≡ 0) ⊎ ((found_len words bs ≡ k) × (is_among words (take k bs) ≡ true))
first_taken k [] bs all = inl refl
first_taken k (v ∷ vs) bs all =
    let len : length v ≡ k = eqb-true (length v) k (and_first (nat_eq (length v) k) (list_all (λ (x : List ℕ). nat_eq (length x) k) vs) all) in
    elim (either_bool (begins_with v bs)) [
      | inl h ↦
          let taken : take k bs ≡ v = subst (λ (n : ℕ). take n bs ≡ v) len (begins_taken v bs h) in
          let s : same (take k bs) v ≡ true = is_same (take k bs) v taken in
          inr (found_len_by v vs bs true h ∙ len, rw s refl)
      | inr h ↦
          elim (first_taken k vs bs (and_second (nat_eq (length v) k) (list_all (λ (x : List ℕ). nat_eq (length x) k) vs) all)) [
            | inl w ↦ inl (found_len_by v vs bs false h ∙ w)
            | inr w ↦ inr (found_len_by v vs bs false h ∙ w.0, or_right (same (take k bs) v) (is_among vs (take k bs)) w.1)
          ]
    ]

-- ---- signs of one byte

one_found_by : (b : ℕ) (bs ys : List ℕ) (y : ℕ) (t : Bool) → nat_eq y b ≡ t → cond (list_any (λ (z : ℕ). nat_eq z b) ys) 1 0 ≡ found_len (map single ys) (b ∷ bs)
    → cond (t || list_any (λ (z : ℕ). nat_eq z b) ys) 1 0 ≡ found_len (map single (y ∷ ys)) (b ∷ bs)
one_found_by b bs ys y true e h = rw e refl
one_found_by b bs ys y false e h = rw e h

one_found : (b : ℕ) (bs ys : List ℕ) → cond (list_any (λ (z : ℕ). nat_eq z b) ys) 1 0 ≡ found_len (map single ys) (b ∷ bs)
one_found b bs [] = refl
one_found b bs (y ∷ ys) = one_found_by b bs ys y (nat_eq y b) refl (one_found b bs ys)

pub one_len_is : (b : ℕ) (bs : List ℕ) → one_len (b ∷ bs) ≡ found_len (map single one) (b ∷ bs)
one_len_is b bs = one_found b bs one

-- ---- all signs

or_else_low : (m n k : ℕ) → (m ≡ 0) ⊎ (k ≤ m) → k ≤ n → k ≤ or_else m n
or_else_low zero n k h le = le
or_else_low (suc m) n k h le = rw (eqb-suc-zero m) (elim h [ inl e ↦ absurd (omega arith) | inr e ↦ e ])

or_else_zero : (m n : ℕ) → m ≡ 0 → or_else m n ≡ n
or_else_zero zero n e = refl
or_else_zero (suc m) n e = absurd (omega arith)

or_else_some : (m n k : ℕ) → m ≡ suc k → or_else m n ≡ suc k
or_else_some zero n k e = absurd (omega arith)
or_else_some (suc m) n k e = rw (eqb-suc-zero m) e

-- what is found of each length
record Found (bs : List ℕ) : Type 0 where
  pub threes : (found_len three bs ≡ 0) ⊎ ((found_len three bs ≡ 3) × (is_among three (take 3 bs) ≡ true))
  pub twos : (two_len bs ≡ 0) ⊎ ((two_len bs ≡ 2) × (is_among two (take 2 bs) ≡ true))
  pub ones : (one_len bs ≡ 0) ⊎ ((one_len bs ≡ 1) × (is_among (map single one) (take 1 bs) ≡ true))

found : (b : ℕ) (bs : List ℕ) → Found (b ∷ bs)
unfolding two_len
found b bs = record {
  threes = first_taken 3 three (b ∷ bs) refl;
  twos = first_taken 2 two (b ∷ bs) refl;
  ones = subst (λ (n : ℕ). (n ≡ 0) ⊎ ((n ≡ 1) × (is_among (map single one) (take 1 (b ∷ bs)) ≡ true))) (sym (one_len_is b bs)) (first_taken 1 (map single one) (b ∷ bs) refl);
}

sign_at : (w : List ℕ) → ((is_among three w ≡ true) ⊎ ((is_among two w ≡ true) ⊎ (is_among (map single one) w ≡ true))) → is_sign w ≡ true
unfolding is_sign
sign_at w h = elim h [
  | inl e ↦ rw e refl
  | inr r ↦ elim r [ inl e ↦ or_right (is_among three w) (is_among two w || is_among (map single one) w) (rw e refl) | inr e ↦ or_right (is_among three w) (is_among two w || is_among (map single one) w) (or_right (is_among two w) (is_among (map single one) w) e) ]
]

pub signs_taken : (b : ℕ) (bs : List ℕ) → 0 < sign_len (b ∷ bs) → is_sign (take (sign_len (b ∷ bs)) (b ∷ bs)) ≡ true
signs_taken b bs some =
    let f = found b bs in
    let P = λ (n : ℕ). is_sign (take n (b ∷ bs)) ≡ true in
    elim f.threes [
      | inr w ↦ subst P (sym (or_else_some (found_len three (b ∷ bs)) (or_else (two_len (b ∷ bs)) (one_len (b ∷ bs))) 2 w.0)) (sign_at (take 3 (b ∷ bs)) (inl w.1))
      | inl z ↦
          let e1 : sign_len (b ∷ bs) ≡ or_else (two_len (b ∷ bs)) (one_len (b ∷ bs)) = or_else_zero (found_len three (b ∷ bs)) (or_else (two_len (b ∷ bs)) (one_len (b ∷ bs))) z in
          elim f.twos [
            | inr w ↦ subst P (sym (e1 ∙ or_else_some (two_len (b ∷ bs)) (one_len (b ∷ bs)) 1 w.0)) (sign_at (take 2 (b ∷ bs)) (inr (inl w.1)))
            | inl z2 ↦
                let e2 : sign_len (b ∷ bs) ≡ one_len (b ∷ bs) = e1 ∙ or_else_zero (two_len (b ∷ bs)) (one_len (b ∷ bs)) z2 in
                elim f.ones [
                  | inr w ↦ subst P (sym (e2 ∙ w.0)) (sign_at (take 1 (b ∷ bs)) (inr (inr w.1)))
                  | inl z3 ↦ let none : sign_len (b ∷ bs) ≡ 0 = e2 ∙ z3 in absurd (omega arith)
                ]
          ]
    ]

none_longer : (k : ℕ) (words : List (List ℕ)) (b : ℕ) (bs : List ℕ) (n : ℕ) → AllLong k words → n ≤ length (b ∷ bs) → (found_len words (b ∷ bs) ≡ k → k ≡ n → ⊥) → is_among words (take n (b ∷ bs)) ≡ false
none_longer k words b bs n all le absent =
    elim (either_bool (is_among words (take n (b ∷ bs)))) [
      | inl e ↦
          let len : length (take n (b ∷ bs)) ≡ n = length-take-le n (b ∷ bs) le in
          let at : n ≡ k = sym len ∙ among_length k words (take n (b ∷ bs)) all e in
          absurd (absent (first_found k words (b ∷ bs) all (subst (λ (v : ℕ). is_among words (take v (b ∷ bs)) ≡ true) at e)) (sym at))
      | inr e ↦ e
    ]

low_zero_or : (m k l : ℕ) (A : Type 0) → (m ≡ 0) ⊎ ((m ≡ k) × A) → l ≤ k → (m ≡ 0) ⊎ (l ≤ m)
low_zero_or m k l A h le = elim h [ inl e ↦ inl e | inr w ↦ let e : m ≡ k = w.0 in inr (omega arith) ]

pub signs_longer : (b : ℕ) (bs : List ℕ) (n : ℕ) → sign_len (b ∷ bs) < n → n ≤ length (b ∷ bs) → is_sign (take n (b ∷ bs)) ≡ false
unfolding is_sign two_len
signs_longer b bs n lt le =
    let f = found b bs in
    let z3 : is_among three (take n (b ∷ bs)) ≡ false = none_longer 3 three b bs n refl le (λ e at.
    let s : sign_len (b ∷ bs) ≡ 3 = or_else_some (found_len three (b ∷ bs)) (or_else (two_len (b ∷ bs)) (one_len (b ∷ bs))) 2 e in omega arith) in
    let z2 : is_among two (take n (b ∷ bs)) ≡ false = none_longer 2 two b bs n refl le (λ e at.
    let i : 2 ≤ or_else (two_len (b ∷ bs)) (one_len (b ∷ bs)) = subst (λ (v : ℕ). 2 ≤ v) (sym (or_else_some (two_len (b ∷ bs)) (one_len (b ∷ bs)) 1 e)) (omega arith) in
    let s : 2 ≤ sign_len (b ∷ bs) = or_else_low (found_len three (b ∷ bs)) (or_else (two_len (b ∷ bs)) (one_len (b ∷ bs))) 2 (low_zero_or (found_len three (b ∷ bs)) 3 2 _ f.threes (omega arith)) i in omega arith) in
    let z1 : is_among (map single one) (take n (b ∷ bs)) ≡ false = none_longer 1 (map single one) b bs n refl le (λ e at.
    let o : one_len (b ∷ bs) ≡ 1 = one_len_is b bs ∙ e in
    let i : 1 ≤ or_else (two_len (b ∷ bs)) (one_len (b ∷ bs)) = or_else_low (two_len (b ∷ bs)) (one_len (b ∷ bs)) 1 (low_zero_or (two_len (b ∷ bs)) 2 1 _ f.twos (omega arith)) (omega arith) in
    let s : 1 ≤ sign_len (b ∷ bs) = or_else_low (found_len three (b ∷ bs)) (or_else (two_len (b ∷ bs)) (one_len (b ∷ bs))) 1 (low_zero_or (found_len three (b ∷ bs)) 3 1 _ f.threes (omega arith)) i in omega arith) in
    rw (z3, z2, z1) refl

-- ---- within the text

among_within : (k : ℕ) (words : List (List ℕ)) (bs : List ℕ) → AllLong k words → is_among words (take k bs) ≡ true → k ≤ length bs
among_within k words bs all e =
    let len : length (take k bs) ≡ k = among_length k words (take k bs) all e in
    let cut = length-take k bs in
    omega arith

pub sign_within : (b : ℕ) (bs : List ℕ) → sign_len (b ∷ bs) ≤ length (b ∷ bs)
sign_within b bs =
    let f = found b bs in
    let P = λ (n : ℕ). n ≤ length (b ∷ bs) in
    elim f.threes [
      | inr w ↦ subst P (sym (or_else_some (found_len three (b ∷ bs)) (or_else (two_len (b ∷ bs)) (one_len (b ∷ bs))) 2 w.0)) (among_within 3 three (b ∷ bs) refl w.1)
      | inl z ↦
          let e1 : sign_len (b ∷ bs) ≡ or_else (two_len (b ∷ bs)) (one_len (b ∷ bs)) = or_else_zero (found_len three (b ∷ bs)) (or_else (two_len (b ∷ bs)) (one_len (b ∷ bs))) z in
          elim f.twos [
            | inr w ↦ subst P (sym (e1 ∙ or_else_some (two_len (b ∷ bs)) (one_len (b ∷ bs)) 1 w.0)) (among_within 2 two (b ∷ bs) refl w.1)
            | inl z2 ↦
                let e2 : sign_len (b ∷ bs) ≡ one_len (b ∷ bs) = e1 ∙ or_else_zero (two_len (b ∷ bs)) (one_len (b ∷ bs)) z2 in
                elim f.ones [
                  | inr w ↦ subst P (sym (e2 ∙ w.0)) (omega arith)
                  | inl z3 ↦ subst P (sym (e2 ∙ z3)) (omega arith)
                ]
          ]
    ]

short_by : (bs : List ℕ) (b k : ℕ) → b ≡ k → sign_len (k ∷ bs) ≤ 1 → sign_len (b ∷ bs) ≤ 1
short_by bs b k e h = subst (λ (v : ℕ). sign_len (v ∷ bs) ≤ 1) (sym e) h

-- no sign of two bytes begins with `$`, `@` or `#`
pub mark_short : (b : ℕ) (bs : List ℕ) → is_mark b ≡ true → sign_len (b ∷ bs) ≤ 1
unfolding two_len
mark_short b bs k =
    elim (or_split (nat_eq b 36 || nat_eq b 64) (nat_eq b 35) k) [
      | inr h ↦ short_by bs b 35 (eqb-true b 35 h) (omega arith)
      | inl h ↦
          elim (or_split (nat_eq b 36) (nat_eq b 64) h) [
            | inl g ↦ short_by bs b 36 (eqb-true b 36 g) (omega arith)
            | inr g ↦ short_by bs b 64 (eqb-true b 64 g) (omega arith)
          ]
    ]
