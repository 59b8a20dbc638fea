-- Laws of the definitions: the longest word is the longest, and each item takes a byte.
use Rattle.std.proofs.Common.{◌≡◌, ℕ, zero, suc, ◌+◌, ◌-◌, ◌<◌, ◌≤◌, Bool, true, false, cond, ◌&&◌, inl, inr, List, [], ◌∷◌, ◌++◌, length, take, drop, refl, sym, ap, subst, arith}
use Rattle.std.specs.Prelude.{nat_eq, nat_le, not, Option, Some, None, Ok, codes}
use Rattle.std.proofs.lemmas.Bool.{eqb-true}
use Rattle.std.proofs.Math.Dec.{eqb-suc-zero}
use Rattle.std.proofs.lemmas.Bool.Decides.{eqb_tells}
use Rattle.std.proofs.lemmas.List.{length-drop}
use Rattle.swift_lex.specs.declared.token.Token.{Token}
use Rattle.swift_lex.specs.declared.token.TokenKind.{TokenKind}
use Rattle.swift_lex.specs.declared.token.TokenKind.TheVariants as kind
use Rattle.swift_lex.specs.declared.place.Place.{Place}
use Rattle.swift_lex.specs.declared.item.Item.{Item}
use Rattle.swift_lex.specs.Spellings.{begins_with, ends_line, char_at, char_len, chars_from, chars_len, comment, more, text}
use Rattle.swift_lex.specs.Words.{longest_up_to, longest, is_word, meant}
use Rattle.swift_lex.specs.Brackets.{is_empty}
use Rattle.swift_lex.specs.Items.{is_blank, separator, as_token, when_some, blank_item, comment_item, by_len, word_token, code_item, text_run, text_item, item}
use Rattle.swift_lex.specs.Tokens.{tokens_from, tokens_of, start, inside, is_done, by_item, behind, token_of, Lexed}

longer_by : (test : List ℕ → Bool) (bs : List ℕ) (k n : ℕ) (t : Bool) → test (take (suc k) bs) ≡ t → cond t (suc k) (longest_up_to test bs k) < n → n ≤ suc k
    → (longest_up_to test bs k < n → n ≤ k → test (take n bs) ≡ false) → test (take n bs) ≡ false
longer_by test bs k n true e lt le h = absurd (omega arith)
longer_by test bs k n false e lt le h =
    elim (eqb_tells n (suc k)) [
      | inl w ↦ subst (λ (v : ℕ). test (take v bs) ≡ false) (sym w.1) e
      | inr w ↦ let ne : n ≡ suc k → ⊥ = w.1 in h lt (omega arith)
    ]

longer_from : (test : List ℕ → Bool) (bs : List ℕ) (k n : ℕ) → longest_up_to test bs k < n → n ≤ k → test (take n bs) ≡ false
longer_from test bs zero n lt le = absurd (omega arith)
longer_from test bs (suc k) n lt le = longer_by test bs k n (test (take (suc k) bs)) refl lt le (λ a b. longer_from test bs k n a b)

-- no front that is longer than the longest passes
pub longest_longer : (test : List ℕ → Bool) (bs : List ℕ) (n : ℕ) → longest test bs < n → n ≤ length bs → test (take n bs) ≡ false
unfolding longest
longest_longer test bs n lt le = longer_from test bs (length bs) n lt le

taken_by : (test : List ℕ → Bool) (bs : List ℕ) (k : ℕ) (t : Bool) → test (take (suc k) bs) ≡ t → 0 < cond t (suc k) (longest_up_to test bs k)
    → (0 < longest_up_to test bs k → test (take (longest_up_to test bs k) bs) ≡ true) → test (take (cond t (suc k) (longest_up_to test bs k)) bs) ≡ true
taken_by test bs k true e some h = e
taken_by test bs k false e some h = h some

taken_from : (test : List ℕ → Bool) (bs : List ℕ) (k : ℕ) → 0 < longest_up_to test bs k → test (take (longest_up_to test bs k) bs) ≡ true
taken_from test bs zero some = absurd (omega arith)
taken_from test bs (suc k) some = taken_by test bs k (test (take (suc k) bs)) refl some (λ s. taken_from test bs k s)

-- the longest passes, where there is one
pub longest_taken : (test : List ℕ → Bool) (bs : List ℕ) → 0 < longest test bs → test (take (longest test bs) bs) ≡ true
unfolding longest
longest_taken test bs some = taken_from test bs (length bs) some

-- ---- each item takes a byte

-- an item, if there is one, takes a byte
abbrev pub TakesSome : Option Item → Type 0
TakesSome None = Unit {0}
TakesSome (Some i) = 1 ≤ i.len

cond_takes : (t : Bool) (a b : Option Item) → TakesSome a → TakesSome b → TakesSome (cond t a b)
cond_takes true a b x y = x
cond_takes false a b x y = y

when_takes : (m : ℕ) (o : Option TokenKind) → TakesSome (when_some (λ k. as_token (suc m) k) o)
when_takes m None = tt
when_takes m (Some k) = omega arith

by_len_takes : (m : ℕ) (bs : List ℕ) → TakesSome (by_len m bs)
by_len_takes zero bs = tt
by_len_takes (suc m) bs = when_takes m (meant (take (suc m) bs))

some_takes : (m : ℕ) (k : TokenKind) → TakesSome (cond (nat_eq m 0) None (Some (as_token m k)))
some_takes zero k = tt
some_takes (suc m) k = rw (eqb-suc-zero m) (omega arith)

text_item_takes : (bs : List ℕ) → TakesSome (text_item bs)
unfolding text_item
text_item_takes [] = tt
text_item_takes (b ∷ bs) =
    cond_takes (nat_eq b 34) (Some (as_token 1 kind.StrClose)) (cond (begins_with (codes "\\(") (b ∷ bs)) (Some (as_token 2 kind.StrHole)) (text_run (text (b ∷ bs)))) (omega arith)
    (cond_takes (begins_with (codes "\\(") (b ∷ bs)) (Some (as_token 2 kind.StrHole)) (text_run (text (b ∷ bs))) (omega arith) (some_takes (text (b ∷ bs)).1 (kind.StrText (text (b ∷ bs)).0)))

-- ---- comments

at_least : (t : Bool) (a b : ℕ) → a ≤ b → a ≤ cond t a b
at_least true a b h = omega arith
at_least false a b h = h

chars_more : (in_line : Bool) (n at : ℕ) (bs : List ℕ) → at ≤ chars_from in_line n at bs
unfolding chars_from
chars_more in_line zero at bs = omega arith
chars_more in_line (suc n) at bs =
    let h = chars_more in_line n (at + char_len in_line bs) (drop (char_len in_line bs) bs) in
    at_least (nat_eq (char_len in_line bs) 0) at (chars_from in_line n (at + char_len in_line bs) (drop (char_len in_line bs) bs)) (omega arith)

slash_char : (bs : List ℕ) → char_at (47 ∷ bs) ≡ Some (47, 1)
unfolding char_at
slash_char bs = rw (eqb-suc-zero (length bs)) refl

slash_len : (in_line : Bool) (bs : List ℕ) → char_len in_line (47 ∷ bs) ≡ 1
slash_len true bs = rw (slash_char bs) refl
slash_len false bs = rw (slash_char bs) refl

slash_some : (in_line : Bool) (bs : List ℕ) → 1 ≤ chars_len in_line (47 ∷ bs)
unfolding chars_from
slash_some in_line bs =
    let h = chars_more in_line (length bs) (0 + 1) (drop 1 (47 ∷ bs)) in
    rw (slash_len in_line bs) h

abbrev pub Some1 : Option ℕ → Type 0
Some1 None = Unit {0}
Some1 (Some n) = 1 ≤ n

more_some : (k : ℕ) (o : Option ℕ) → 1 ≤ k → Some1 (more k o)
more_some k None h = tt
more_some k (Some n) h = omega arith

cond_some : (t : Bool) (a b : Option ℕ) → Some1 a → Some1 b → Some1 (cond t a b)
cond_some true a b x y = x
cond_some false a b x y = y

comment_some : (depth : ℕ) (bs : List ℕ) → Some1 (comment depth bs)
unfolding comment
comment_some depth [] = tt
comment_some depth (b ∷ []) = tt
comment_some depth (b ∷ c ∷ bs) =
    cond_some (nat_eq b 47 && nat_eq c 42) (more 2 (comment (suc depth) bs))
    (cond (nat_eq b 42 && nat_eq c 47) (cond (nat_le depth 1) (Some 2) (more 2 (comment (depth - 1) bs))) (more 1 (comment depth (c ∷ bs))))
    (more_some 2 (comment (suc depth) bs) (omega arith))
    (cond_some (nat_eq b 42 && nat_eq c 47) (cond (nat_le depth 1) (Some 2) (more 2 (comment (depth - 1) bs))) (more 1 (comment depth (c ∷ bs)))
    (cond_some (nat_le depth 1) (Some 2) (more 2 (comment (depth - 1) bs)) (omega arith) (more_some 2 (comment (depth - 1) bs) (omega arith)))
    (more_some 1 (comment depth (c ∷ bs)) (omega arith)))

closed_takes : (in_hole : Bool) (bs : List ℕ) (o : Option ℕ) → Some1 o → TakesSome (when_some (λ n. separator (chars_len in_hole (take n (47 ∷ bs)))) o)
closed_takes in_hole bs None h = tt
closed_takes in_hole bs (Some zero) h = absurd (omega arith)
closed_takes in_hole bs (Some (suc n)) h = slash_some in_hole (take n bs)

and_first : (a b : Bool) → (a && b) ≡ true → a ≡ true
and_first true b e = refl
and_first false b e = e

line_takes : (b : ℕ) (bs : List ℕ) → 47 ≡ b → TakesSome (Some (separator (chars_len true (b ∷ bs))))
line_takes b bs e = subst (λ (v : ℕ). 1 ≤ chars_len true (v ∷ bs)) e (slash_some true bs)

comment_takes : (in_hole : Bool) (b : ℕ) (bs : List ℕ) → 47 ≡ b → TakesSome (comment_item in_hole (b ∷ bs))
comment_takes in_hole b bs e = subst (λ (v : ℕ). TakesSome (comment_item in_hole (v ∷ bs))) e (closed_takes in_hole bs (comment 0 (47 ∷ bs)) (comment_some 0 (47 ∷ bs)))

-- ---- any

cond_if : (t : Bool) (a b : Option Item) → (t ≡ true → TakesSome a) → TakesSome b → TakesSome (cond t a b)
cond_if true a b x y = x refl
cond_if false a b x y = y

word_token_takes : (bs : List ℕ) → TakesSome (word_token bs)
unfolding word_token
word_token_takes bs = by_len_takes (longest is_word bs) bs

abbrev starred : Bool → ℕ → List ℕ → Option Item
starred in_hole b bs = cond (begins_with (codes "/*") (b ∷ bs)) (comment_item in_hole (b ∷ bs)) (word_token (b ∷ bs))

abbrev slashed : Bool → ℕ → List ℕ → Option Item
slashed in_hole b bs = cond (begins_with (codes "//") (b ∷ bs)) (Some (separator (chars_len true (b ∷ bs)))) (starred in_hole b bs)

begins_slash : (b : ℕ) (rest : Bool) → (nat_eq 47 b && rest) ≡ true → 47 ≡ b
begins_slash b rest e = eqb-true 47 b (and_first (nat_eq 47 b) rest e)

code_item_takes : (in_hole : Bool) (bs : List ℕ) → TakesSome (code_item in_hole bs)
unfolding code_item
code_item_takes in_hole [] = tt
code_item_takes in_hole (b ∷ bs) =
    cond_takes (is_blank b) (blank_item in_hole (b ∷ bs)) (slashed in_hole b bs)
    (cond_takes (in_hole && ends_line (b ∷ bs)) None (Some (separator 1)) tt (omega arith))
    (cond_if (begins_with (codes "//") (b ∷ bs)) (Some (separator (chars_len true (b ∷ bs)))) (starred in_hole b bs) (λ e. line_takes b bs (begins_slash b (begins_with (codes "/") bs) e))
    (cond_if (begins_with (codes "/*") (b ∷ bs)) (comment_item in_hole (b ∷ bs)) (word_token (b ∷ bs)) (λ e. comment_takes in_hole b bs (begins_slash b (begins_with (codes "*") bs) e)) (word_token_takes (b ∷ bs))))

item_takes : (o : List Bool) (t : Bool) (bs : List ℕ) → TakesSome (item o t bs)
unfolding item
item_takes o t bs = cond_takes t _ _ (text_item_takes bs) (code_item_takes (not (is_empty o)) bs)

item_nil : (o : List Bool) (t : Bool) → item o t [] ≡ None
unfolding item text_item code_item
item_nil o true = refl
item_nil o false = refl

by_item_takes : (p : Place) (o : Option Item) (f g : Item → Lexed) → TakesSome o → ((x : Item) → 1 ≤ x.len → f x ≡ g x) → by_item p o f ≡ by_item p o g
by_item_takes p None f g s h = refl
by_item_takes p (Some x) f g s h = h x s

from_enough : (n m : ℕ) (p : Place) (bs : List ℕ) (found : List Token) → length bs < n → length bs < m → tokens_from n p bs found ≡ tokens_from m p bs found
unfolding tokens_from
from_enough zero m p bs found ln lm = absurd (omega arith)
from_enough (suc n) zero p bs found ln lm = absurd (omega arith)
from_enough (suc n) (suc m) p [] found ln lm = rw (item_nil (inside found).0 (inside found).1) refl
from_enough (suc n) (suc m) p (b ∷ bs) found ln lm =
    let next : (i : Item) → 1 ≤ i.len → tokens_from n (behind i p (b ∷ bs)) (drop i.len (b ∷ bs)) (found ++ token_of i.token p) ≡ tokens_from m (behind i p (b ∷ bs)) (drop i.len (b ∷ bs)) (found ++ token_of i.token p)
    = λ i some.
    let len = length-drop i.len (b ∷ bs) in
    from_enough n m (behind i p (b ∷ bs)) (drop i.len (b ∷ bs)) (found ++ token_of i.token p) (omega arith) (omega arith) in
    ap (λ (rest : Lexed). cond (is_done (inside found).0 (inside found).1 (b ∷ bs)) (Ok found) rest)
    (by_item_takes p (item (inside found).0 (inside found).1 (b ∷ bs)) _ _ (item_takes (inside found).0 (inside found).1 (b ∷ bs)) next)

-- any number above that of the bytes gives the same tokens
pub count_enough : (n : ℕ) (bs : List ℕ) → length bs < n → tokens_from n start bs [] ≡ tokens_of bs
unfolding tokens_of
count_enough n bs lt = from_enough n (length bs + 1) start bs [] lt (omega arith)
