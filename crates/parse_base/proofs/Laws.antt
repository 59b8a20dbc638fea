-- That a parser reads a language, and how that follows for what is made of parts.
use Rattle.std.proofs.Common.{◌≡◌, ℕ, zero, suc, ◌+◌, ◌≤◌, Bool, true, false, cond, ◌||◌, List, [], ◌∷◌, ◌++◌, length, refl, sym, ap, subst, ◌∙◌, append_assoc, length-append, arith, inl, inr, ◌⊎◌}
use Rattle.std.specs.Prelude.{Option, Some, None}
use Rattle.std.proofs.lemmas.List.{append-nil}
use Rattle.swift_lex.specs.declared.token.Token.{Token}
use Rattle.parse_base.specs.Parser.{Outcome, Parser, and_then, Terminal, with_rest, take_one, starts, both, made, choose, many, counted, perhaps, all, only_where, listed, then_by, such, spanned}
use Rattle.parse_base.specs.Language.{Language, One, Both, Made, Either, Many, UpTo, Perhaps, Greedy, Where, Listed, Then, Such, Spanned}
use Rattle.swift_ast.specs.declared.span.Span.{Span}
use Rattle.parse_base.specs.Spans.{span_of}

-- The parser p, on at most n tokens, finds what Q says where what follows passes `ends`; what it finds is what R says.
-- What Q says takes k tokens at least, and begins as `first` says.
pub record Exact {A : Type 0} (k n : ℕ) (p : Parser A) (R Q : Language A) (first ends : List Token → Bool) : Type 0 where
  pub sound : (ts : List Token) (x : A) (rest : List Token) → p ts ≡ Some (x, rest) → R ts x rest
  pub complete : (ts : List Token) (x : A) (rest : List Token) → length ts ≤ n → Q ts x rest → ends rest ≡ true → p ts ≡ Some (x, rest)
  pub takes : (ts : List Token) (x : A) (rest : List Token) → Q ts x rest → length rest + k ≤ length ts
  pub begins : (ts : List Token) (x : A) (rest : List Token) → Q ts x rest → ends rest ≡ true → first ts ≡ true

abbrev pub anything : List Token → Bool
anything ts = true

abbrev pub Implies : (List Token → Bool) → (List Token → Bool) → Type 0
Implies p q = (ts : List Token) → p ts ≡ true → q ts ≡ true

abbrev got : {A : Type 0} → A → List Token → Outcome A
got x rest = Some (x, rest)

pub and_then_some : {A B : Type 0} (o : Outcome A) (f : A → List Token → Outcome B) (y : B × List Token) → and_then o f ≡ Some y → (a : A × List Token) × (o ≡ Some a) × (f a.0 a.1 ≡ Some y)
and_then_some (Some a) f y e = (a, refl, e)
and_then_some None f y e = absurd cc

pub some_is : {A : Type 0} (x y : A) → ◌≡◌ {A = Option A} (Some x) (Some y) → x ≡ y
some_is x y e = cc

pub got_is : {A : Type 0} (x y : A) (r s : List Token) → got x r ≡ got y s → (x ≡ y) × (r ≡ s)
got_is {A = A} x y r s e =
    let p = some_is {A = A × List Token} (x, r) (y, s) e in
    (ap (λ (q : A × List Token). q.0) p, ap (λ (q : A × List Token). q.1) p)

with_rest_some : {A : Type 0} (ts : List Token) (o : Option A) (x : A) (rest : List Token) → with_rest ts o ≡ Some (x, rest) → (o ≡ Some x) × (ts ≡ rest)
with_rest_some ts (Some a) x rest e = let h = got_is a x ts rest e in (ap (λ v. Some v) h.0, h.1)
with_rest_some ts None x rest e = absurd cc

pub or_left : (a b : Bool) → a ≡ true → (a || b) ≡ true
or_left a b e = rw e refl

pub or_right : (a b : Bool) → b ≡ true → (a || b) ≡ true
or_right true b e = refl
or_right false b e = e

pub or_cases : {P : Type 0} (a b : Bool) → (a || b) ≡ true → (a ≡ true → P) → (b ≡ true → P) → P
or_cases true b e f g = f refl
or_cases false b e f g = g e

-- ---- one token

one_sound : {A : Type 0} (f : Terminal A) (ts : List Token) (x : A) (rest : List Token) → take_one f ts ≡ Some (x, rest) → One f ts x rest
unfolding take_one One
one_sound f [] x rest e = absurd cc
one_sound f (t ∷ ts) x rest e =
    let h = with_rest_some ts (f t ts) x rest e in
    (t, ap (λ (r : List Token). t ∷ r) h.1, subst (λ (r : List Token). f t r ≡ Some x) h.1 h.0)

one_complete : {A : Type 0} (f : Terminal A) (ts : List Token) (x : A) (rest : List Token) → One f ts x rest → take_one f ts ≡ Some (x, rest)
unfolding take_one One
one_complete f ts x rest q = rw (q.1, q.2) refl

one_takes : {A : Type 0} (f : Terminal A) (ts : List Token) (x : A) (rest : List Token) → One f ts x rest → length rest + 1 ≤ length ts
unfolding One
one_takes f ts x rest q = rw q.1 (omega arith)

one_begins : {A : Type 0} (f : Terminal A) (ts : List Token) (x : A) (rest : List Token) → One f ts x rest → starts f ts ≡ true
unfolding One starts
one_begins f ts x rest q = rw (q.1, q.2) refl

pub one_exact : {A : Type 0} (n : ℕ) (f : Terminal A) → Exact 1 n (take_one f) (One f) (One f) (starts f) anything
one_exact n f = record {
  sound = one_sound f;
  complete = λ ts x rest _ q _. one_complete f ts x rest q;
  takes = one_takes f;
  begins = λ ts x rest q _. one_begins f ts x rest q;
}

-- ---- one and then the other

both_sound : {A B : Type 0} (p : Parser A) (q : Parser B) (R : Language A) (S : Language B)
    → ((ts : List Token) (x : A) (rest : List Token) → p ts ≡ Some (x, rest) → R ts x rest) → ((ts : List Token) (x : B) (rest : List Token) → q ts ≡ Some (x, rest) → S ts x rest)
    → (ts : List Token) (x : A × B) (rest : List Token) → both p q ts ≡ Some (x, rest) → Both R S ts x rest
unfolding both Both
both_sound {A = A} {B = B} p q R S hp hq ts x rest e =
    let a = and_then_some (p ts) (λ a mid. and_then (q mid) (λ b rest. Some ((a, b), rest))) (x, rest) e in
    let b = and_then_some (q a.0.1) (λ b rest. Some ((a.0.0, b), rest)) (x, rest) a.2 in
    let sp = hp ts a.0.0 a.0.1 a.1 in
    let sq = hq a.0.1 b.0.0 b.0.1 b.1 in
    let h = got_is {A = A × B} (a.0.0, b.0.0) x b.0.1 rest b.2 in
    subst (λ (v : A × B). Both R S ts v rest) h.0 (subst (λ (v : List Token). Both R S ts (a.0.0, b.0.0) v) h.1 (a.0.1, sp, sq))

-- The first takes a token, or nothing is said of the second's depth: both read at most n tokens.
pub both_exact : {A B : Type 0} {k l n : ℕ} {p : Parser A} {q : Parser B} {R R' : Language A} {S S' : Language B} {first1 first2 ends1 ends2 : List Token → Bool}
    → Exact k n p R R' first1 ends1 → Exact l n q S S' first2 ends2 → Implies first2 ends1 → Exact (k + l) n (both p q) (Both R S) (Both R' S') first1 ends2
unfolding both Both
both_exact {k = k} {l = l} {n = n} {p = p} {q = q} {R = R} {S = S} hp hq meets = record {
  sound = both_sound p q R S hp.sound hq.sound;
  complete = λ ts x rest le w ends.
      let first = hq.begins w.0 x.1 rest w.2 ends in
      let e1 = hp.complete ts x.0 w.0 le w.1 (meets w.0 first) in
      let short = hp.takes ts x.0 w.0 w.1 in
      let e2 = hq.complete w.0 x.1 rest (omega arith) w.2 ends in
      rw (e1, e2) refl;
  takes = λ ts x rest w. let a = hp.takes ts x.0 w.0 w.1 in let b = hq.takes w.0 x.1 rest w.2 in omega arith;
  begins = λ ts x rest w ends. hp.begins ts x.0 w.0 w.1 (meets w.0 (hq.begins w.0 x.1 rest w.2 ends));
}

-- The first takes a token, so the second may be a parser for one token less.
pub after_exact : {A B : Type 0} {k l n : ℕ} {p : Parser A} {q : Parser B} {R R' : Language A} {S S' : Language B} {first1 first2 ends1 ends2 : List Token → Bool}
    → Exact (suc k) (suc n) p R R' first1 ends1 → Exact l n q S S' first2 ends2 → Implies first2 ends1 → Exact (suc k) (suc n) (both p q) (Both R S) (Both R' S') first1 ends2
unfolding both Both
after_exact {k = k} {l = l} {n = n} {p = p} {q = q} {R = R} {S = S} hp hq meets = record {
  sound = both_sound p q R S hp.sound hq.sound;
  complete = λ ts x rest le w ends.
      let first = hq.begins w.0 x.1 rest w.2 ends in
      let e1 = hp.complete ts x.0 w.0 le w.1 (meets w.0 first) in
      let short = hp.takes ts x.0 w.0 w.1 in
      let e2 = hq.complete w.0 x.1 rest (omega arith) w.2 ends in
      rw (e1, e2) refl;
  takes = λ ts x rest w. let a = hp.takes ts x.0 w.0 w.1 in let b = hq.takes w.0 x.1 rest w.2 in omega arith;
  begins = λ ts x rest w ends. hp.begins ts x.0 w.0 w.1 (meets w.0 (hq.begins w.0 x.1 rest w.2 ends));
}

pub weaker : {A : Type 0} {k n : ℕ} {p : Parser A} {R R' : Language A} {first ends : List Token → Bool} (first' : List Token → Bool) (ends' : List Token → Bool)
    → Exact k n p R R' first ends → Implies first first' → Implies ends' ends → Exact k n p R R' first' ends'
weaker first' ends' h wider narrower = record {
  sound = h.sound;
  complete = λ ts x rest le w e. h.complete ts x rest le w (narrower rest e);
  takes = h.takes;
  begins = λ ts x rest w e. wider ts (h.begins ts x rest w (narrower rest e));
}

-- what ends anywhere ends there
pub until : {A : Type 0} {k n : ℕ} {p : Parser A} {R R' : Language A} {first : List Token → Bool} (ends : List Token → Bool)
    → Exact k n p R R' first anything → Exact k n p R R' first ends
until ends h = record {
  sound = h.sound;
  complete = λ ts x rest le w e. h.complete ts x rest le w refl;
  takes = h.takes;
  begins = λ ts x rest w e. h.begins ts x rest w refl;
}

pub fewer : {A : Type 0} {k l n : ℕ} {p : Parser A} {R R' : Language A} {first ends : List Token → Bool} → l ≤ k → Exact k n p R R' first ends → Exact l n p R R' first ends
fewer le h = record {
  sound = h.sound;
  complete = h.complete;
  takes = λ ts x rest w. let a = h.takes ts x rest w in omega arith;
  begins = h.begins;
}

-- ---- the tree of what was read

made_sound : {A B : Type 0} (f : A → B) (p : Parser A) (R : Language A)
    → ((ts : List Token) (x : A) (rest : List Token) → p ts ≡ Some (x, rest) → R ts x rest)
    → (ts : List Token) (y : B) (rest : List Token) → made f p ts ≡ Some (y, rest) → Made f R ts y rest
unfolding made Made
made_sound {B = B} f p R hp ts y rest e =
    let a = and_then_some (p ts) (λ a rest. Some (f a, rest)) (y, rest) e in
    let h = got_is {A = B} (f a.0.0) y a.0.1 rest a.2 in
    (a.0.0, subst (λ (v : List Token). R ts a.0.0 v) h.1 (hp ts a.0.0 a.0.1 a.1), sym h.0)

pub made_exact : {A B : Type 0} {k n : ℕ} {p : Parser A} {R R' : Language A} {first ends : List Token → Bool} (f : A → B)
    → Exact k n p R R' first ends → Exact k n (made f p) (Made f R) (Made f R') first ends
unfolding made Made
made_exact {p = p} {R = R} f hp = record {
  sound = made_sound f p R hp.sound;
  complete = λ ts y rest le w ends. rw (hp.complete ts w.0 rest le w.1 ends, w.2) refl;
  takes = λ ts y rest w. hp.takes ts w.0 rest w.1;
  begins = λ ts y rest w ends. hp.begins ts w.0 rest w.1 ends;
}

-- ---- one of two, which a test tells apart

pub choose_sound : {A : Type 0} (test : List Token → Bool) (p q : Parser A) (R S : Language A)
    → ((ts : List Token) (x : A) (rest : List Token) → p ts ≡ Some (x, rest) → R ts x rest) → ((ts : List Token) (x : A) (rest : List Token) → q ts ≡ Some (x, rest) → S ts x rest)
    → (ts : List Token) (x : A) (rest : List Token) → (b : Bool) → cond b (p ts) (q ts) ≡ Some (x, rest) → Either R S ts x rest
unfolding Either
choose_sound test p q R S hp hq ts x rest true e = inl (hp ts x rest e)
choose_sound test p q R S hp hq ts x rest false e = inr (hq ts x rest e)

pub choose_exact : {A : Type 0} {k n : ℕ} {test : List Token → Bool} {p q : Parser A} {R R' S S' : Language A} {first1 first2 ends : List Token → Bool}
    → Exact k n p R R' first1 ends → Exact k n q S S' first2 ends → Implies first1 test → ((ts : List Token) → first2 ts ≡ true → test ts ≡ false)
    → Exact k n (choose test p q) (Either R S) (Either R' S') (λ ts. first1 ts || first2 ts) ends
unfolding choose Either
choose_exact {test = test} {p = p} {q = q} {R = R} {S = S} hp hq chosen other = record {
  sound = λ ts x rest e. choose_sound test p q R S hp.sound hq.sound ts x rest (test ts) e;
  complete = λ ts x rest le w ends. elim w [
    | inl a ↦ rw (chosen ts (hp.begins ts x rest a ends)) (hp.complete ts x rest le a ends)
    | inr b ↦ rw (other ts (hq.begins ts x rest b ends)) (hq.complete ts x rest le b ends)
  ];
  takes = λ ts x rest w. elim w [ inl a ↦ hp.takes ts x rest a | inr b ↦ hq.takes ts x rest b ];
  begins = λ ts x rest w ends. elim w [
    | inl a ↦ or_left _ _ (hp.begins ts x rest a ends)
    | inr b ↦ or_right _ _ (hq.begins ts x rest b ends)
  ];
}

-- ---- as many as begin so

cond_some : {A : Type 0} (b : Bool) (p q : Outcome A) (y : A × List Token) → cond b p q ≡ Some y → ((b ≡ true) × (p ≡ Some y)) ⊎ ((b ≡ false) × (q ≡ Some y))
cond_some true p q y e = inl (refl, e)
cond_some false p q y e = inr (refl, e)

done_is : {A : Type 0} (found all : List A) (ts rest : List Token) → got found ts ≡ got all rest → (ts ≡ rest) × (all ≡ found ++ [])
done_is {A = A} found all ts rest e = let h = got_is {A = List A} found all ts rest e in (h.1, sym h.0 ∙ sym (append-nil found))

pub many_sound : {A : Type 0} (test : List Token → Bool) (item : Parser A) (R : Language A) → ((ts : List Token) (x : A) (rest : List Token) → item ts ≡ Some (x, rest) → R ts x rest)
    → (n : ℕ) (found : List A) (ts : List Token) (all : List A) (rest : List Token) → many test item n found ts ≡ Some (all, rest)
    → (xs : List A) × (all ≡ found ++ xs) × Many R ts xs rest × (length xs ≤ n)
unfolding many Many
many_sound test item R h zero found ts all rest e =
    elim (cond_some (test ts) None (Some (found, ts)) (all, rest) e) [
      | inl w ↦ absurd cc
      | inr w ↦ let d = done_is found all ts rest w.1 in ([], d.1, d.0, omega arith)
    ]
many_sound {A = A} test item R h (suc n) found ts all rest e =
    let go = λ (x : A) (r : List Token). many test item n (found ++ x ∷ []) r in
    elim (cond_some (test ts) (and_then (item ts) go) (Some (found, ts)) (all, rest) e) [
      | inl w ↦
          let a = and_then_some (item ts) go (all, rest) w.1 in
          let i = many_sound test item R h n (found ++ a.0.0 ∷ []) a.0.1 all rest a.2 in
          (a.0.0 ∷ i.0, i.1 ∙ append_assoc found (a.0.0 ∷ []) i.0, (a.0.1, h ts a.0.0 a.0.1 a.1, i.2), let le : length i.0 ≤ n = i.3 in omega arith)
      | inr w ↦ let d = done_is found all ts rest w.1 in ([], d.1, d.0, omega arith)
    ]

-- what the repetition asks of its item, of what begins one and of what follows
pub record Repeats {A : Type 0} (k m : ℕ) (test : List Token → Bool) (item : Parser A) (R Q : Language A) (first item_ends ends : List Token → Bool) : Type 0 where
  pub exact : Exact (suc k) m item R Q first item_ends
  pub begin : Implies first test
  pub next : Implies first item_ends
  pub last : Implies ends item_ends
  pub stop : (ts : List Token) → ends ts ≡ true → test ts ≡ false

many_begins : {A : Type 0} {k m : ℕ} {test : List Token → Bool} {item : Parser A} {R Q : Language A} {first item_ends ends : List Token → Bool} → Repeats k m test item R Q first item_ends ends
    → (xs : List A) (ts rest : List Token) → Many Q ts xs rest → ends rest ≡ true → (first ts || ends ts) ≡ true
unfolding Many
many_begins {ends = ends} r [] ts rest w e = or_right _ _ (subst (λ v. ends v ≡ true) (sym w) e)
many_begins {item_ends = item_ends} r (x ∷ xs) ts rest w e =
    let tail = many_begins r xs w.0 rest w.2 e in
    or_left _ _ (r.exact.begins ts x w.0 w.1 (or_cases {P = item_ends w.0 ≡ true} _ _ tail (r.next w.0) (r.last w.0)))

many_takes : {A : Type 0} {k m : ℕ} {test : List Token → Bool} {item : Parser A} {R Q : Language A} {first item_ends ends : List Token → Bool} → Repeats k m test item R Q first item_ends ends
    → (xs : List A) (ts rest : List Token) → Many Q ts xs rest → length rest + length xs ≤ length ts
unfolding Many
many_takes r [] ts rest w = rw w (omega arith)
many_takes r (x ∷ xs) ts rest w =
    let a = r.exact.takes ts x w.0 w.1 in
    let b = many_takes r xs w.0 rest w.2 in
    omega arith

pub many_complete : {A : Type 0} {k m : ℕ} {test : List Token → Bool} {item : Parser A} {R Q : Language A} {first item_ends ends : List Token → Bool} → Repeats k m test item R Q first item_ends ends
    → (xs : List A) (n : ℕ) (found : List A) (ts rest : List Token) → length ts ≤ m → length xs ≤ n → Many Q ts xs rest → ends rest ≡ true → many test item n found ts ≡ Some (found ++ xs, rest)
unfolding many Many
many_complete {test = test} {ends = ends} r [] zero found ts rest le fits w e =
    let off : test ts ≡ false = r.stop ts (subst (λ v. ends v ≡ true) (sym w) e) in
    rw (off, w, append-nil found) refl
many_complete {test = test} {ends = ends} r [] (suc n) found ts rest le fits w e =
    let off : test ts ≡ false = r.stop ts (subst (λ v. ends v ≡ true) (sym w) e) in
    rw (off, w, append-nil found) refl
many_complete r (x ∷ xs) zero found ts rest le fits w e = absurd (omega arith)
many_complete {test = test} {item = item} {item_ends = item_ends} r (x ∷ xs) (suc n) found ts rest le fits w e =
    let tail = many_begins r xs w.0 rest w.2 e in
    let ended : item_ends w.0 ≡ true = or_cases {P = item_ends w.0 ≡ true} _ _ tail (r.next w.0) (r.last w.0) in
    let on : test ts ≡ true = r.begin ts (r.exact.begins ts x w.0 w.1 ended) in
    let first = r.exact.complete ts x w.0 le w.1 ended in
    let short = r.exact.takes ts x w.0 w.1 in
    let others = many_complete r xs n (found ++ x ∷ []) w.0 rest (omega arith) (omega arith) w.2 e in
    rw (on, first, others) (ap (λ v. Some (v, rest)) (append_assoc found (x ∷ []) xs))

pub upto_exact : {A : Type 0} {k m : ℕ} {test : List Token → Bool} {item : Parser A} {R Q : Language A} {first item_ends ends : List Token → Bool} (n : ℕ)
    → Repeats k m test item R Q first item_ends ends → Exact 0 m (many test item n []) (UpTo n (Many R)) (UpTo n (Many Q)) (λ ts. first ts || ends ts) ends
unfolding UpTo
upto_exact {A = A} {test = test} {item = item} {R = R} n r = record {
  sound = λ ts xs rest e.
      let s = many_sound test item R r.exact.sound n [] ts xs rest e in
      let same : s.0 ≡ xs = sym s.1 in
      subst (λ (v : List A). UpTo n (Many R) ts v rest) same (s.2, s.3);
  complete = λ ts xs rest le w e. many_complete r xs n [] ts rest le w.1 w.0 e;
  takes = λ ts xs rest w. let t = many_takes r xs ts rest w.0 in omega arith;
  begins = λ ts xs rest w e. many_begins r xs ts rest w.0 e;
}

pub all_exact : {A : Type 0} {k m : ℕ} {test : List Token → Bool} {item : Parser A} {R Q : Language A} {first item_ends ends : List Token → Bool}
    → Repeats k m test item R Q first item_ends ends → Exact 0 m (all test item) (Many R) (Many Q) (λ ts. first ts || ends ts) ends
unfolding all
all_exact {A = A} {test = test} {item = item} {R = R} r = record {
  sound = λ ts xs rest e.
      let s = many_sound test item R r.exact.sound (length ts) [] ts xs rest e in
      let same : s.0 ≡ xs = sym s.1 in
      subst (λ (v : List A). Many R ts v rest) same s.2;
  complete = λ ts xs rest le w e. let t = many_takes r xs ts rest w in many_complete r xs (length ts) [] ts rest le (omega arith) w e;
  takes = λ ts xs rest w. let t = many_takes r xs ts rest w in omega arith;
  begins = λ ts xs rest w e. many_begins r xs ts rest w e;
}

-- ---- how many begin so

count_step : (o : Outcome (Unit {0})) (f : List Token → Outcome ℕ) (g : List Token → Outcome (List (Unit {0}))) → ((rest : List Token) → f rest ≡ and_then (g rest) (λ xs r. Some (length xs, r)))
    → and_then o (λ x rest. f rest) ≡ and_then (and_then o (λ x rest. g rest)) (λ xs r. Some (length xs, r))
count_step None f g h = refl
count_step (Some x) f g h = h x.1

counted_cond : (b : Bool) (o : Outcome ℕ) (p : Outcome (List (Unit {0}))) (n : ℕ) (found : List (Unit {0})) (ts : List Token) → n ≡ length found → o ≡ and_then p (λ xs r. Some (length xs, r))
    → cond b o (got n ts) ≡ and_then (cond b p (got found ts)) (λ xs r. Some (length xs, r))
counted_cond true o p n found ts e h = h
counted_cond false o p n found ts e h = ap (λ v. got v ts) e

counted_is : (test : List Token → Bool) (item : Parser (Unit {0})) (n at : ℕ) (found : List (Unit {0})) (ts : List Token) → at ≡ length found
    → counted test item n at ts ≡ and_then (many test item n found ts) (λ xs r. Some (length xs, r))
unfolding counted many
counted_is test item zero at found ts e = counted_cond (test ts) None None at found ts e refl
counted_is test item (suc n) at found ts e =
    counted_cond (test ts) _ _ at found ts e
    (count_step (item ts) (counted test item n (at + 1)) (many test item n (found ++ tt ∷ []))
    (λ rest. counted_is test item n (at + 1) (found ++ tt ∷ []) rest (rw (length-append found (tt ∷ []), e) refl)))

pub counted_exact : {k m : ℕ} {test : List Token → Bool} {item : Parser (Unit {0})} {R Q : Language (Unit {0})} {first item_ends ends : List Token → Bool} (n : ℕ)
    → Repeats k m test item R Q first item_ends ends → Exact 0 m (counted test item n 0) (Made length (UpTo n (Many R))) (Made length (UpTo n (Many Q))) (λ ts. first ts || ends ts) ends
unfolding made
counted_exact {test = test} {item = item} n r =
    let h = made_exact (λ (xs : List (Unit {0})). length xs) (upto_exact n r) in
    record {
      sound = λ ts x rest e. h.sound ts x rest (sym (counted_is test item n 0 [] ts refl) ∙ e);
      complete = λ ts x rest le w e. counted_is test item n 0 [] ts refl ∙ h.complete ts x rest le w e;
      takes = h.takes;
      begins = h.begins;
    }

-- ---- something or nothing

greedy_sound : {A : Type 0} (test : List Token → Bool) (p : Parser A) (R : Language A) → ((ts : List Token) (x : A) (rest : List Token) → p ts ≡ Some (x, rest) → R ts x rest)
    → (ts : List Token) (x : Option A) (rest : List Token) → perhaps test p ts ≡ Some (x, rest) → Greedy test R ts x rest
unfolding perhaps Greedy
greedy_sound {A = A} test p R h ts x rest e =
    let go = λ (x : A) (rest : List Token). got {A = Option A} (Some x) rest in
    elim (cond_some {A = Option A} (test ts) (and_then (p ts) go) (got {A = Option A} None ts) (x, rest) e) [
      | inl w ↦
          let a = and_then_some {A = A} {B = Option A} (p ts) go (x, rest) w.1 in
          let g = got_is {A = Option A} (Some a.0.0) x a.0.1 rest a.2 in
          subst (λ (v : Option A). Greedy test R ts v rest) g.0 (subst (λ (v : List Token). (test ts ≡ true) × R ts a.0.0 v) g.1 (w.0, h ts a.0.0 a.0.1 a.1))
      | inr w ↦
          let g = got_is {A = Option A} None x ts rest w.1 in
          subst (λ (v : Option A). Greedy test R ts v rest) g.0 (g.1, w.0)
    ]

greedy_complete : {A : Type 0} {k n : ℕ} (test : List Token → Bool) {p : Parser A} {R R' : Language A} {first ends : List Token → Bool}
    → Exact k n p R R' first ends → (ts : List Token) (x : Option A) (rest : List Token) → length ts ≤ n → Greedy test R' ts x rest → ends rest ≡ true → perhaps test p ts ≡ Some (x, rest)
unfolding perhaps Greedy
greedy_complete test h ts None rest le w e = rw (w.1, w.0) refl
greedy_complete test h ts (Some x) rest le w e = rw (w.0, h.complete ts x rest le w.1 e) refl

greedy_takes : {A : Type 0} {k n : ℕ} (test : List Token → Bool) {p : Parser A} {R R' : Language A} {first ends : List Token → Bool}
    → Exact k n p R R' first ends → (ts : List Token) (x : Option A) (rest : List Token) → Greedy test R' ts x rest → length rest + 0 ≤ length ts
unfolding Greedy
greedy_takes test h ts None rest w = rw w.0 (omega arith)
greedy_takes test h ts (Some x) rest w = let a = h.takes ts x rest w.1 in omega arith

pub greedy_exact : {A : Type 0} {k n : ℕ} (test : List Token → Bool) {p : Parser A} {R R' : Language A} {first ends : List Token → Bool}
    → Exact k n p R R' first ends → Exact 0 n (perhaps test p) (Greedy test R) (Greedy test R') anything ends
greedy_exact test {p = p} {R = R} h = record {
  sound = greedy_sound test p R h.sound;
  complete = λ ts x rest le w e. greedy_complete test h ts x rest le w e;
  takes = λ ts x rest w. greedy_takes test h ts x rest w;
  begins = λ ts x rest w e. refl;
}

-- what is said where the test announces it, and nothing where something ends that it does not announce
pub record Announced (first test ends ends' : List Token → Bool) : Type 0 where
  pub begin : Implies first test
  pub last : Implies ends' ends
  pub stop : (ts : List Token) → ends' ts ≡ true → test ts ≡ false

perhaps_sound : {A : Type 0} (test : List Token → Bool) (R : Language A) (ts : List Token) (x : Option A) (rest : List Token) → Greedy test R ts x rest → Perhaps R ts x rest
unfolding Perhaps Greedy
perhaps_sound test R ts None rest w = w.0
perhaps_sound test R ts (Some x) rest w = w.1

perhaps_is_greedy : {A : Type 0} {k n : ℕ} {test : List Token → Bool} {p : Parser A} {R R' : Language A} {first ends ends' : List Token → Bool}
    → Exact k n p R R' first ends → Announced first test ends ends' → (ts : List Token) (x : Option A) (rest : List Token) → Perhaps R' ts x rest → ends' rest ≡ true → Greedy test R' ts x rest
unfolding Perhaps Greedy
perhaps_is_greedy {test = test} h a ts None rest w e = (w, subst (λ v. test v ≡ false) (sym w) (a.stop rest e))
perhaps_is_greedy h a ts (Some x) rest w e = (a.begin ts (h.begins ts x rest w (a.last rest e)), w)

perhaps_begins : {A : Type 0} {k n : ℕ} {test : List Token → Bool} {p : Parser A} {R R' : Language A} {first ends ends' : List Token → Bool}
    → Exact k n p R R' first ends → Announced first test ends ends' → (ts : List Token) (x : Option A) (rest : List Token) → Perhaps R' ts x rest → ends' rest ≡ true → (first ts || ends' ts) ≡ true
unfolding Perhaps
perhaps_begins {ends' = ends'} h a ts None rest w e = or_right _ _ (subst (λ v. ends' v ≡ true) (sym w) e)
perhaps_begins h a ts (Some x) rest w e = or_left _ _ (h.begins ts x rest w (a.last rest e))

perhaps_takes : {A : Type 0} {k n : ℕ} {p : Parser A} {R R' : Language A} {first ends : List Token → Bool}
    → Exact k n p R R' first ends → (ts : List Token) (x : Option A) (rest : List Token) → Perhaps R' ts x rest → length rest + 0 ≤ length ts
unfolding Perhaps
perhaps_takes h ts None rest w = rw w (omega arith)
perhaps_takes h ts (Some x) rest w = let a = h.takes ts x rest w in omega arith

pub perhaps_exact : {A : Type 0} {k n : ℕ} {test : List Token → Bool} {p : Parser A} {R R' : Language A} {first ends ends' : List Token → Bool}
    → Exact k n p R R' first ends → Announced first test ends ends' → Exact 0 n (perhaps test p) (Perhaps R) (Perhaps R') (λ ts. first ts || ends' ts) ends'
perhaps_exact {test = test} {p = p} {R = R} h a = record {
  sound = λ ts x rest e. perhaps_sound test R ts x rest (greedy_sound test p R h.sound ts x rest e);
  complete = λ ts x rest le w e. greedy_complete test h ts x rest le (perhaps_is_greedy h a ts x rest w e) (a.last rest e);
  takes = perhaps_takes h;
  begins = perhaps_begins h a;
}

-- ---- nothing, where a test holds

where_sound : (test : List Token → Bool) (ts : List Token) (x : Unit {0}) (rest : List Token) → only_where test ts ≡ Some (x, rest) → Where test ts x rest
unfolding only_where Where
where_sound test ts x rest e =
    elim (cond_some {A = Unit {0}} (test ts) (got {A = Unit {0}} tt ts) None (x, rest) e) [
      | inl w ↦ let g = got_is {A = Unit {0}} tt x ts rest w.1 in (g.1, w.0, refl)
      | inr w ↦ absurd cc
    ]

pub where_exact : (n : ℕ) (test : List Token → Bool) → Exact 0 n (only_where test) (Where test) (Where test) test anything
unfolding only_where Where
where_exact n test = record {
  sound = where_sound test;
  complete = λ ts x rest le w e. rw (w.1, w.0) refl;
  takes = λ ts x rest w. rw w.0 (omega arith);
  begins = λ ts x rest w e. w.1;
}

-- ---- a list with commas

pub listed_exact : {A : Type 0} {k n : ℕ} (comma : Terminal (Unit {0})) {item : Parser A} {R R' : Language A} {first ends ends' : List Token → Bool}
    → Exact (suc k) n item R R' first ends → Implies (starts comma) ends → Implies ends' ends → ((ts : List Token) → ends' ts ≡ true → starts comma ts ≡ false)
    → Exact (suc k) n (listed comma item) (Listed comma R) (Listed comma R') first ends'
unfolding listed Listed
listed_exact {A = A} {n = n} comma {item = item} {R = R} {R' = R'} {ends = ends} h next last stop =
    let one : Exact 1 n (made (λ x. x.1) (both (take_one comma) item)) (Made (λ x. x.1) (Both (One comma) R)) (Made (λ x. x.1) (Both (One comma) R')) (starts comma) ends = made_exact _ (fewer (omega arith) (both_exact (one_exact n comma) h (λ ts e. refl))) in
    made_exact _ (fewer (omega arith) (both_exact h (all_exact {k = 0} (record { exact = one; begin = λ ts e. e; next = next; last = last; stop = stop })) (λ ts e. or_cases _ _ e (next ts) (last ts))))

-- ---- what is known of a front beyond its first token

pub stronger : {A : Type 0} {k n : ℕ} {p : Parser A} {R R' : Language A} {first ends : List Token → Bool} (more : List Token → Bool)
    → Exact k n p R R' first ends → ((ts : List Token) (x : A) (rest : List Token) → R' ts x rest → ends rest ≡ true → more ts ≡ true) → Exact k n p R R' more ends
stronger more h known = record { sound = h.sound; complete = h.complete; takes = h.takes; begins = known }

pub lower : {A : Type 0} {k n : ℕ} {p : Parser A} {R R' : Language A} {first ends : List Token → Bool} → Exact k (suc n) p R R' first ends → Exact k n p R R' first ends
lower h = record {
  sound = h.sound;
  complete = λ ts x rest le w e. h.complete ts x rest (omega arith) w e;
  takes = h.takes;
  begins = h.begins;
}

-- ---- a tree that is made with its span

spanned_sound : {A B : Type 0} (total : ℕ) (f : Span → A → B) (p : Parser A) (R : Language A)
    → ((ts : List Token) (x : A) (rest : List Token) → p ts ≡ Some (x, rest) → R ts x rest)
    → (ts : List Token) (y : B) (rest : List Token) → spanned total f p ts ≡ Some (y, rest) → Spanned total f R ts y rest
unfolding spanned Spanned
spanned_sound {B = B} total f p R hp ts y rest e =
    let a = and_then_some (p ts) (λ a rest. Some (f (span_of total ts rest) a, rest)) (y, rest) e in
    let h = got_is {A = B} (f (span_of total ts a.0.1) a.0.0) y a.0.1 rest a.2 in
    (a.0.0, subst (λ (v : List Token). R ts a.0.0 v) h.1 (hp ts a.0.0 a.0.1 a.1), subst (λ (v : List Token). y ≡ f (span_of total ts v) a.0.0) h.1 (sym h.0))

pub spanned_exact : {A B : Type 0} {k n : ℕ} {p : Parser A} {R R' : Language A} {first ends : List Token → Bool} (total : ℕ) (f : Span → A → B)
    → Exact k n p R R' first ends → Exact k n (spanned total f p) (Spanned total f R) (Spanned total f R') first ends
unfolding spanned Spanned
spanned_exact {p = p} {R = R} total f hp = record {
  sound = spanned_sound total f p R hp.sound;
  complete = λ ts y rest le w ends. rw (hp.complete ts w.0 rest le w.1 ends, w.2) refl;
  takes = λ ts y rest w. hp.takes ts w.0 rest w.1;
  begins = λ ts y rest w ends. hp.begins ts w.0 rest w.1 ends;
}

-- ---- one and then another that depends on the first

then_sound : {A B : Type 0} (p : Parser A) (q : A → Parser B) (R : Language A) (S : A → Language B)
    → ((ts : List Token) (x : A) (rest : List Token) → p ts ≡ Some (x, rest) → R ts x rest)
    → ((a : A) (ts : List Token) (x : B) (rest : List Token) → q a ts ≡ Some (x, rest) → S a ts x rest)
    → (ts : List Token) (x : A × B) (rest : List Token) → then_by p q ts ≡ Some (x, rest) → Then R S ts x rest
unfolding then_by Then
then_sound {A = A} {B = B} p q R S hp hq ts x rest e =
    let a = and_then_some (p ts) (λ a mid. and_then (q a mid) (λ b rest. Some ((a, b), rest))) (x, rest) e in
    let b = and_then_some (q a.0.0 a.0.1) (λ b rest. Some ((a.0.0, b), rest)) (x, rest) a.2 in
    let sp = hp ts a.0.0 a.0.1 a.1 in
    let sq = hq a.0.0 a.0.1 b.0.0 b.0.1 b.1 in
    let h = got_is {A = A × B} (a.0.0, b.0.0) x b.0.1 rest b.2 in
    subst (λ (v : A × B). Then R S ts v rest) h.0 (subst (λ (v : List Token). Then R S ts (a.0.0, b.0.0) v) h.1 (a.0.1, sp, sq))

pub then_exact : {A B : Type 0} {k l n : ℕ} {p : Parser A} {q : A → Parser B} {R R' : Language A} {S S' : A → Language B} {first1 first2 ends1 ends2 : List Token → Bool}
    → Exact k n p R R' first1 ends1 → ((a : A) → Exact l n (q a) (S a) (S' a) first2 ends2) → Implies first2 ends1 → Exact (k + l) n (then_by p q) (Then R S) (Then R' S') first1 ends2
unfolding then_by Then
then_exact {k = k} {l = l} {n = n} {p = p} {q = q} {R = R} {S = S} hp hq meets = record {
  sound = then_sound p q R S hp.sound (λ a. (hq a).sound);
  complete = λ ts x rest le w ends.
      let first = (hq x.0).begins w.0 x.1 rest w.2 ends in
      let e1 = hp.complete ts x.0 w.0 le w.1 (meets w.0 first) in
      let short = hp.takes ts x.0 w.0 w.1 in
      let e2 = (hq x.0).complete w.0 x.1 rest (omega arith) w.2 ends in
      rw (e1, e2) refl;
  takes = λ ts x rest w. let a = hp.takes ts x.0 w.0 w.1 in let b = (hq x.0).takes w.0 x.1 rest w.2 in omega arith;
  begins = λ ts x rest w ends. hp.begins ts x.0 w.0 w.1 (meets w.0 ((hq x.0).begins w.0 x.1 rest w.2 ends));
}

-- ---- only what passes a test

kept_is : {A : Type 0} (b : Bool) (a x : A) (ts rest : List Token) → cond b (got a ts) None ≡ Some (x, rest) → (b ≡ true) × (a ≡ x) × (ts ≡ rest)
kept_is true a x ts rest e = let h = got_is a x ts rest e in (refl, h.0, h.1)
kept_is false a x ts rest e = absurd cc

such_sound : {A : Type 0} (test : A → Bool) (p : Parser A) (R : Language A)
    → ((ts : List Token) (x : A) (rest : List Token) → p ts ≡ Some (x, rest) → R ts x rest)
    → (ts : List Token) (x : A) (rest : List Token) → such test p ts ≡ Some (x, rest) → Such test R ts x rest
unfolding such Such
such_sound {A = A} test p R hp ts x rest e =
    let a = and_then_some (p ts) (λ a rest. cond (test a) (got a rest) None) (x, rest) e in
    let h = kept_is (test a.0.0) a.0.0 x a.0.1 rest a.2 in
    (subst (λ (v : A). R ts v rest) h.1 (subst (λ (v : List Token). R ts a.0.0 v) h.2 (hp ts a.0.0 a.0.1 a.1)), subst (λ (v : A). test v ≡ true) h.1 h.0)

pub such_exact : {A : Type 0} {k n : ℕ} (test : A → Bool) {p : Parser A} {R R' : Language A} {first ends : List Token → Bool}
    → Exact k n p R R' first ends → Exact k n (such test p) (Such test R) (Such test R') first ends
unfolding such Such
such_exact test {p = p} {R = R} hp = record {
  sound = such_sound test p R hp.sound;
  complete = λ ts x rest le w ends. rw (hp.complete ts x rest le w.0 ends, w.1) refl;
  takes = λ ts x rest w. hp.takes ts x rest w.0;
  begins = λ ts x rest w ends. hp.begins ts x rest w.0 ends;
}
