-- The token that the code finds outside of strings is the longest word.
use Rattle.std.proofs.Common.{◌≡◌, ℕ, zero, suc, ◌+◌, ◌<◌, ◌≤◌, Bool, true, false, cond, ◌&&◌, ◌||◌, inl, inr, List, [], ◌∷◌, length, take, refl, sym, ◌∙◌, ap, subst, arith}
use Rattle.std.specs.Prelude.{nat_eq, Option, Some, None, pos, not}
use Rattle.std.specs.List.{list_all}
use Rattle.std.proofs.Math.Dec.{eqb-suc-zero}
use Rattle.swift_lex.specs.declared.token.TokenKind.{TokenKind}
use Rattle.swift_lex.specs.declared.token.TokenKind.TheVariants as kind
use Rattle.swift_lex.specs.Spellings.{is_letter, is_decimal, is_name_byte, run}
use Rattle.swift_lex.specs.Runs.{found_item, begins_name, sign_len, base_at, prefix_len}
use Rattle.swift_lex.specs.Words.{is_nil, is_name, is_mark, is_number, is_sign, is_word, number_meant, word_kind, marked_kind, as_int, meant}
use Rattle.swift_lex.specs.Items.{as_token, when_some, by_len, word_token, code_item}
use Rattle.swift_lex.specs.Runs.{number_item, marked_item, sign_item, token_at, found_item}
use Rattle.swift_lex.proofs.WordLemmas.{either_bool, and_false, longest-is, run_taken, run_longer}
use Rattle.swift_lex.proofs.SignLemmas.{signs_taken, signs_longer, sign_within, mark_short}
use Rattle.swift_lex.proofs.NumberWords.{number_reads, number_len, number_in}

-- m bytes are the longest word at the front
record Takes (bs : List ℕ) (m : ℕ) : Type 0 where
  pub within : m ≤ length bs
  pub taken : 0 < m → is_word (take m bs) ≡ true
  pub longer : (n : ℕ) → m < n → n ≤ length bs → is_word (take n bs) ≡ false

takes_token : (bs : List ℕ) (m : ℕ) → Takes bs m → word_token bs ≡ by_len m bs
unfolding word_token
takes_token bs m t = ap (λ (n : ℕ). by_len n bs) (longest-is is_word bs m t.within t.taken t.longer)

by_some : (bs : List ℕ) (m : ℕ) (o : Option TokenKind) → 0 < m → meant (take m bs) ≡ o → by_len m bs ≡ when_some (λ k. as_token m k) o
by_some bs zero o some e = absurd (omega arith)
by_some bs (suc m) o some e = ap (λ (k : Option TokenKind). when_some (λ x. as_token (suc m) x) k) e

-- ---- a quote

quote_longer : (b : ℕ) (bs : List ℕ) (n : ℕ) → nat_eq b 34 ≡ true → 1 < n → n ≤ length (b ∷ bs) → is_word (take n (b ∷ bs)) ≡ false
unfolding is_word
quote_longer b bs zero q lt le = absurd (omega arith)
quote_longer b bs (suc zero) q lt le = absurd (omega arith)
quote_longer b [] (suc (suc k)) q lt le = absurd (omega arith)
quote_longer b (c ∷ cs) (suc (suc k)) q lt le = rw q refl

quote_takes : (b : ℕ) (bs : List ℕ) → nat_eq b 34 ≡ true → Takes (b ∷ bs) 1
unfolding is_word
quote_takes b bs q = record { within = omega arith; taken = λ some. rw q refl; longer = λ n lt le. quote_longer b bs n q lt le }

quote_meant : (b : ℕ) (bs : List ℕ) → nat_eq b 34 ≡ true → meant (take 1 (b ∷ bs)) ≡ Some kind.StrOpen
unfolding meant
quote_meant b bs q = rw q refl

-- ---- a number

decimal_word : (b : ℕ) (bs : List ℕ) → nat_eq b 34 ≡ false → is_decimal b ≡ true → is_word (b ∷ bs) ≡ is_number (b ∷ bs)
unfolding is_word
decimal_word b bs q d = rw (q, d) refl

decimal_meant : (b : ℕ) (bs : List ℕ) → nat_eq b 34 ≡ false → is_decimal b ≡ true → meant (b ∷ bs) ≡ as_int (number_meant (b ∷ bs))
unfolding meant
decimal_meant b bs q d = rw (q, d) refl

decimal_word_at : (b : ℕ) (bs : List ℕ) (n : ℕ) → nat_eq b 34 ≡ false → is_decimal b ≡ true → 0 < n → is_word (take n (b ∷ bs)) ≡ is_number (take n (b ∷ bs))
decimal_word_at b bs zero q d some = absurd (omega arith)
decimal_word_at b bs (suc n) q d some = decimal_word b (take n bs) q d

decimal_meant_at : (b : ℕ) (bs : List ℕ) (n : ℕ) → nat_eq b 34 ≡ false → is_decimal b ≡ true → 0 < n → meant (take n (b ∷ bs)) ≡ as_int (number_meant (take n (b ∷ bs)))
decimal_meant_at b bs zero q d some = absurd (omega arith)
decimal_meant_at b bs (suc n) q d some = decimal_meant b (take n bs) q d

as_int_item : (m : ℕ) (o : Option ℕ) → when_some (λ k. as_token m k) (as_int o) ≡ when_some (λ v. as_token m (kind.Int (pos v))) o
as_int_item m None = refl
as_int_item m (Some n) = refl

decimal_token : (b : ℕ) (bs : List ℕ) → nat_eq b 34 ≡ false → is_decimal b ≡ true → word_token (b ∷ bs) ≡ number_item (base_at (b ∷ bs)) (prefix_len (base_at (b ∷ bs))) (b ∷ bs)
decimal_token b bs q d =
    let m : ℕ = number_len (base_at (b ∷ bs)) (b ∷ bs) in
    let r = number_reads b bs d in
    let t : Takes (b ∷ bs) (number_len (base_at (b ∷ bs)) (b ∷ bs)) = record {
      within = r.within;
      taken = λ some. decimal_word_at b bs (number_len (base_at (b ∷ bs)) (b ∷ bs)) q d some ∙ r.taken;
      longer = λ n lt le. decimal_word_at b bs n q d (omega arith) ∙ r.longer n lt le;
    } in
    takes_token (b ∷ bs) (number_len (base_at (b ∷ bs)) (b ∷ bs)) t
    ∙ by_some (b ∷ bs) (number_len (base_at (b ∷ bs)) (b ∷ bs)) (as_int (number_in (base_at (b ∷ bs)) (b ∷ bs))) r.some
    (decimal_meant_at b bs (number_len (base_at (b ∷ bs)) (b ∷ bs)) q d r.some ∙ ap (λ (o : Option ℕ). as_int o) r.means)
    ∙ as_int_item (number_len (base_at (b ∷ bs)) (b ∷ bs)) (number_in (base_at (b ∷ bs)) (b ∷ bs))

-- ---- a name

letter_word : (b : ℕ) (bs : List ℕ) → nat_eq b 34 ≡ false → is_decimal b ≡ false → is_letter b ≡ true → is_word (b ∷ bs) ≡ list_all is_name_byte bs
unfolding is_word
letter_word b bs q d l = rw (q, d, l) refl

letter_meant : (b : ℕ) (bs : List ℕ) → nat_eq b 34 ≡ false → is_decimal b ≡ false → is_letter b ≡ true → meant (b ∷ bs) ≡ Some (word_kind (b ∷ bs))
unfolding meant
letter_meant b bs q d l = rw (q, d, l) refl

name_run : (b : ℕ) (bs : List ℕ) → is_letter b ≡ true → run is_name_byte (b ∷ bs) ≡ suc (run is_name_byte bs)
name_run b bs l = rw l refl

run_within : (p : ℕ → Bool) (bs : List ℕ) → run p bs ≤ length bs
run_within p [] = omega arith
run_within p (b ∷ bs) = run_by (run p bs) (length bs) (p b) (run_within p bs)
  where
    run_by : (n m : ℕ) (t : Bool) → n ≤ m → cond t (suc n) 0 ≤ suc m
    run_by n m true h = omega arith
    run_by n m false h = omega arith

letter_longer : (b : ℕ) (bs : List ℕ) (n : ℕ) → nat_eq b 34 ≡ false → is_decimal b ≡ false → is_letter b ≡ true → suc (run is_name_byte bs) < n → n ≤ length (b ∷ bs) → is_word (take n (b ∷ bs)) ≡ false
letter_longer b bs zero q d l lt le = absurd (omega arith)
letter_longer b bs (suc n) q d l lt le = letter_word b (take n bs) q d l ∙ run_longer is_name_byte bs n (omega arith) (omega arith)

letter_token : (b : ℕ) (bs : List ℕ) → nat_eq b 34 ≡ false → is_decimal b ≡ false → is_letter b ≡ true → word_token (b ∷ bs) ≡ Some (as_token (suc (run is_name_byte bs)) (word_kind (b ∷ take (run is_name_byte bs) bs)))
letter_token b bs q d l =
    let w = run_within is_name_byte bs in
    let t : Takes (b ∷ bs) (suc (run is_name_byte bs)) = record {
      within = omega arith;
      taken = λ some. letter_word b (take (run is_name_byte bs) bs) q d l ∙ run_taken is_name_byte bs;
      longer = λ n lt le. letter_longer b bs n q d l lt le;
    } in
    takes_token (b ∷ bs) (suc (run is_name_byte bs)) t
    ∙ by_some (b ∷ bs) (suc (run is_name_byte bs)) (Some (word_kind (b ∷ take (run is_name_byte bs) bs))) (omega arith) (letter_meant b (take (run is_name_byte bs) bs) q d l)

-- ---- a sign

sign_word : (b : ℕ) (bs : List ℕ) → nat_eq b 34 ≡ false → is_decimal b ≡ false → is_letter b ≡ false → is_mark b ≡ false → is_word (b ∷ bs) ≡ is_sign (b ∷ bs)
unfolding is_word
sign_word b bs q d l k = rw (q, d, l, k) refl

sign_meant : (b : ℕ) (bs : List ℕ) → nat_eq b 34 ≡ false → is_decimal b ≡ false → is_letter b ≡ false → (is_mark b && not (is_nil bs)) ≡ false → meant (b ∷ bs) ≡ Some (kind.Sign (b ∷ bs))
unfolding meant
sign_meant b bs q d l k = rw (q, d, l, k) refl

sign_word_at : (b : ℕ) (bs : List ℕ) (n : ℕ) → nat_eq b 34 ≡ false → is_decimal b ≡ false → is_letter b ≡ false → is_mark b ≡ false → 0 < n → is_word (take n (b ∷ bs)) ≡ is_sign (take n (b ∷ bs))
sign_word_at b bs zero q d l k some = absurd (omega arith)
sign_word_at b bs (suc n) q d l k some = sign_word b (take n bs) q d l k

sign_by : (b : ℕ) (bs : List ℕ) (m : ℕ) → (0 < m → meant (take m (b ∷ bs)) ≡ Some (kind.Sign (take m (b ∷ bs))))
    → by_len m (b ∷ bs) ≡ cond (nat_eq m 0) None (Some (as_token m (kind.Sign (take m (b ∷ bs)))))
sign_by b bs zero h = refl
sign_by b bs (suc m) h = rw (eqb-suc-zero m) (by_some (b ∷ bs) (suc m) (Some (kind.Sign (take (suc m) (b ∷ bs)))) (omega arith) (h (omega arith)))

sign_meant_at : (b : ℕ) (bs : List ℕ) (m : ℕ) → nat_eq b 34 ≡ false → is_decimal b ≡ false → is_letter b ≡ false → is_mark b ≡ false → 0 < m → meant (take m (b ∷ bs)) ≡ Some (kind.Sign (take m (b ∷ bs)))
sign_meant_at b bs zero q d l k some = absurd (omega arith)
sign_meant_at b bs (suc m) q d l k some = sign_meant b (take m bs) q d l (rw k refl)

sign_token : (b : ℕ) (bs : List ℕ) → nat_eq b 34 ≡ false → is_decimal b ≡ false → is_letter b ≡ false → is_mark b ≡ false → sign_len (b ∷ bs) ≤ length (b ∷ bs) → word_token (b ∷ bs) ≡ sign_item (b ∷ bs)
sign_token b bs q d l k within =
    let t : Takes (b ∷ bs) (sign_len (b ∷ bs)) = record {
      within = within;
      taken = λ some. sign_word_at b bs (sign_len (b ∷ bs)) q d l k some ∙ signs_taken b bs some;
      longer = λ n lt le. sign_word_at b bs n q d l k (omega arith) ∙ signs_longer b bs n lt le;
    } in
    takes_token (b ∷ bs) (sign_len (b ∷ bs)) t ∙ sign_by b bs (sign_len (b ∷ bs)) (λ some. sign_meant_at b bs (sign_len (b ∷ bs)) q d l k some)

-- ---- `$`, `@` and `#`

mark_word : (b : ℕ) (bs : List ℕ) → nat_eq b 34 ≡ false → is_decimal b ≡ false → is_letter b ≡ false → is_mark b ≡ true → is_word (b ∷ bs) ≡ (is_name bs || is_sign (b ∷ bs))
unfolding is_word
mark_word b bs q d l k = rw (q, d, l, k) refl

mark_meant : (b : ℕ) (bs : List ℕ) → nat_eq b 34 ≡ false → is_decimal b ≡ false → is_letter b ≡ false → (is_mark b && not (is_nil bs)) ≡ true → meant (b ∷ bs) ≡ Some (marked_kind b (b ∷ bs))
unfolding meant
mark_meant b bs q d l k = rw (q, d, l, k) refl

name_taken : (c : ℕ) (cs : List ℕ) → is_letter c ≡ true → is_name (take (run is_name_byte (c ∷ cs)) (c ∷ cs)) ≡ true
name_taken c cs l =
    let h = run_taken is_name_byte cs in
    subst (λ (n : ℕ). is_name (take n (c ∷ cs)) ≡ true) (sym (name_run c cs l)) (rw (l, h) refl)

name_longer : (c : ℕ) (cs : List ℕ) (n : ℕ) → is_letter c ≡ true → run is_name_byte (c ∷ cs) < n → n ≤ length (c ∷ cs) → is_name (take n (c ∷ cs)) ≡ false
name_longer c cs zero l lt le = refl
name_longer c cs (suc n) l lt le =
    let e = name_run c cs l in
    let h = run_longer is_name_byte cs n (omega arith) (omega arith) in
    rw (l, h) refl

name_some : (c : ℕ) (cs : List ℕ) → is_letter c ≡ true → not (is_nil (take (run is_name_byte (c ∷ cs)) (c ∷ cs))) ≡ true
name_some c cs l = subst (λ (n : ℕ). not (is_nil (take n (c ∷ cs))) ≡ true) (sym (name_run c cs l)) refl

named_longer : (b c : ℕ) (cs : List ℕ) (n : ℕ) → nat_eq b 34 ≡ false → is_decimal b ≡ false → is_letter b ≡ false → is_mark b ≡ true → is_letter c ≡ true → suc (run is_name_byte (c ∷ cs)) < n → n ≤ length (b ∷ c ∷ cs)
    → is_word (take n (b ∷ c ∷ cs)) ≡ false
named_longer b c cs zero q d l k lc lt le = absurd (omega arith)
named_longer b c cs (suc n) q d l k lc lt le =
    let short = mark_short b (c ∷ cs) k in
    let s : is_sign (b ∷ take n (c ∷ cs)) ≡ false = signs_longer b (c ∷ cs) (suc n) (omega arith) le in
    let h = name_longer c cs n lc (omega arith) (omega arith) in
    mark_word b (take n (c ∷ cs)) q d l k ∙ rw (h, s) refl

named_token : (b c : ℕ) (cs : List ℕ) → nat_eq b 34 ≡ false → is_decimal b ≡ false → is_letter b ≡ false → is_mark b ≡ true → is_letter c ≡ true → word_token (b ∷ c ∷ cs) ≡ Some (marked_item b (b ∷ c ∷ cs))
named_token b c cs q d l k lc =
    let w = run_within is_name_byte (c ∷ cs) in
    let h = name_taken c cs lc in
    let s = name_some c cs lc in
    let t : Takes (b ∷ c ∷ cs) (suc (run is_name_byte (c ∷ cs))) = record {
      within = omega arith;
      taken = λ some. mark_word b (take (run is_name_byte (c ∷ cs)) (c ∷ cs)) q d l k ∙ rw h refl;
      longer = λ n lt le. named_longer b c cs n q d l k lc lt le;
    } in
    let e : suc (run is_name_byte (c ∷ cs)) ≡ run is_name_byte (c ∷ cs) + 1 = omega arith in
    takes_token (b ∷ c ∷ cs) (suc (run is_name_byte (c ∷ cs))) t
    ∙ by_some (b ∷ c ∷ cs) (suc (run is_name_byte (c ∷ cs))) (Some (marked_kind b (b ∷ take (run is_name_byte (c ∷ cs)) (c ∷ cs)))) (omega arith)
    (mark_meant b (take (run is_name_byte (c ∷ cs)) (c ∷ cs)) q d l (rw (k, s) refl))
    ∙ ap (λ (n : ℕ). Some (as_token n (marked_kind b (take n (b ∷ c ∷ cs))))) e

no_name : (bs : List ℕ) (n : ℕ) → begins_name bs ≡ false → is_name (take n bs) ≡ false
no_name [] zero e = refl
no_name [] (suc n) e = refl
no_name (c ∷ cs) zero e = refl
no_name (c ∷ cs) (suc n) e = rw e refl

bare_word_at : (b : ℕ) (bs : List ℕ) (n : ℕ) → nat_eq b 34 ≡ false → is_decimal b ≡ false → is_letter b ≡ false → is_mark b ≡ true → begins_name bs ≡ false → 0 < n → is_word (take n (b ∷ bs)) ≡ is_sign (take n (b ∷ bs))
bare_word_at b bs zero q d l k absent some = absurd (omega arith)
bare_word_at b bs (suc n) q d l k absent some = let h = no_name bs n absent in mark_word b (take n bs) q d l k ∙ rw h refl

bare_meant_at : (b : ℕ) (bs : List ℕ) (m : ℕ) → nat_eq b 34 ≡ false → is_decimal b ≡ false → is_letter b ≡ false → m ≤ 1 → 0 < m → meant (take m (b ∷ bs)) ≡ Some (kind.Sign (take m (b ∷ bs)))
bare_meant_at b bs zero q d l short some = absurd (omega arith)
bare_meant_at b bs (suc zero) q d l short some = sign_meant b [] q d l (and_false _)
bare_meant_at b bs (suc (suc m)) q d l short some = absurd (omega arith)

bare_token : (b : ℕ) (bs : List ℕ) → nat_eq b 34 ≡ false → is_decimal b ≡ false → is_letter b ≡ false → is_mark b ≡ true → begins_name bs ≡ false → word_token (b ∷ bs) ≡ sign_item (b ∷ bs)
bare_token b bs q d l k absent =
    let t : Takes (b ∷ bs) (sign_len (b ∷ bs)) = record {
      within = sign_within b bs;
      taken = λ some. bare_word_at b bs (sign_len (b ∷ bs)) q d l k absent some ∙ signs_taken b bs some;
      longer = λ n lt le. bare_word_at b bs n q d l k absent (omega arith) ∙ signs_longer b bs n lt le;
    } in
    takes_token (b ∷ bs) (sign_len (b ∷ bs)) t ∙ sign_by b bs (sign_len (b ∷ bs)) (λ some. bare_meant_at b bs (sign_len (b ∷ bs)) q d l (mark_short b bs k) some)

mark_token : (b : ℕ) (bs : List ℕ) (t : Bool) → nat_eq b 34 ≡ false → is_decimal b ≡ false → is_letter b ≡ false → is_mark b ≡ true → begins_name bs ≡ t
    → word_token (b ∷ bs) ≡ cond t (Some (marked_item b (b ∷ bs))) (sign_item (b ∷ bs))
mark_token b [] true q d l k e = absurd cc
mark_token b (c ∷ cs) true q d l k e = named_token b c cs q d l k e
mark_token b bs false q d l k e = bare_token b bs q d l k e

-- ---- any

pub token_at_is : (b : ℕ) (bs : List ℕ) → token_at b (b ∷ bs) ≡ word_token (b ∷ bs)
token_at_is b bs =
    elim (either_bool (nat_eq b 34)) [
      | inl q ↦ rw q (sym (takes_token (b ∷ bs) 1 (quote_takes b bs q) ∙ by_some (b ∷ bs) 1 (Some kind.StrOpen) (omega arith) (quote_meant b bs q)))
      | inr q ↦
          elim (either_bool (is_decimal b)) [
            | inl d ↦ rw (q, d) (sym (decimal_token b bs q d))
            | inr d ↦
                elim (either_bool (is_letter b)) [
                  | inl l ↦ rw (q, d, l) (sym (letter_token b bs q d l))
                  | inr l ↦
                      elim (either_bool (is_mark b)) [
                        | inl k ↦ rw (q, d, l, k) (sym (mark_token b bs (begins_name bs) q d l k refl))
                        | inr k ↦ rw (q, d, l, k) (sym (sign_token b bs q d l k (sign_within b bs)))
                      ]
                ]
          ]
    ]

-- what the code finds is what stands there
pub found_is : (in_hole : Bool) (bs : List ℕ) → found_item in_hole bs ≡ code_item in_hole bs
unfolding found_item code_item
found_is in_hole [] = refl
found_is in_hole (b ∷ bs) = rw (token_at_is b bs) refl
