-- Runs of characters.
use Rattle.std.proofs.Common.{◌≡◌, ℕ, suc, ◌+◌, ◌-◌, ◌<◌, ◌≤◌, Bool, false, cond, List, ◌++◌, length, drop, refl, sym, ◌∙◌, subst, arith}
use Rattle.std.proofs.lemmas.Bool.{ne_eqb}
use Rattle.std.specs.Prelude.{Option, Some, None, nat_eq, encode_utf8}
use Rattle.bstr.specs.Utf8.{decoded}
use Rattle.bstr.proofs.lemmas.PieceLemmas as pieces
use Rattle.swift_lex.specs.Spellings.{char_len, chars_from, piece, with_piece, text_from}

pub size_within : (bs : List ℕ) → (decoded bs).size ≤ length bs
size_within = pieces.size-within

pub chars_turn : (in_line : Bool) (n at k : ℕ) (bs : List ℕ) → at < n
    → chars_from in_line (n - at) k bs ≡ cond (nat_eq (char_len in_line bs) 0) k (chars_from in_line (n - (at + 1)) (k + char_len in_line bs) (drop (char_len in_line bs) bs))
unfolding chars_from
chars_turn in_line n at k bs lt = let e : n - at ≡ suc (n - (at + 1)) = omega arith in rw e refl

pub chars_end : (in_line : Bool) (n at k : ℕ) (bs : List ℕ) → n ≤ at → chars_from in_line (n - at) k bs ≡ k
unfolding chars_from
chars_end in_line n at k bs le = let e : n - at ≡ 0 = omega arith in rw e refl

pub chars_step : (in_line : Bool) (n at k : ℕ) (bs : List ℕ) (len : ℕ) → at < n → len ≡ char_len in_line bs → (len ≡ 0 → ⊥)
    → chars_from in_line (n - at) k bs ≡ chars_from in_line (n - (at + 1)) (k + len) (drop len bs)
chars_step in_line n at k bs len lt e some =
    let off : nat_eq (char_len in_line bs) 0 ≡ false = subst (λ (v : ℕ). nat_eq v 0 ≡ false) e (ne_eqb len 0 some) in
    let t : chars_from in_line (n - at) k bs ≡ chars_from in_line (n - (at + 1)) (k + char_len in_line bs) (drop (char_len in_line bs) bs) = chars_turn in_line n at k bs lt ∙ rw off refl in
    subst (λ (v : ℕ). chars_from in_line (n - at) k bs ≡ chars_from in_line (n - (at + 1)) (k + v) (drop v bs)) (sym e) t

pub text_turn : (n at : ℕ) (found : List ℕ) (k : ℕ) (bs : List ℕ) → at < n
    → text_from (n - at) found k bs ≡ with_piece (piece bs) (found, k) (λ m l. text_from (n - (at + 1)) (found ++ encode_utf8 m) (k + l) (drop l bs))
unfolding text_from
text_turn n at found k bs lt = let e : n - at ≡ suc (n - (at + 1)) = omega arith in rw e refl

pub text_end : (n at : ℕ) (found : List ℕ) (k : ℕ) (bs : List ℕ) → n ≤ at → text_from (n - at) found k bs ≡ (found, k)
unfolding text_from
text_end n at found k bs le = let e : n - at ≡ 0 = omega arith in rw e refl

pub none_left : (o : Option (ℕ × ℕ)) (t : List ℕ × ℕ) (f : ℕ → ℕ → List ℕ × ℕ) → o ≡ None → with_piece o t f ≡ t
none_left o t f e = rw e refl

pub one_read : (o : Option (ℕ × ℕ)) (t : List ℕ × ℕ) (f : ℕ → ℕ → List ℕ × ℕ) (m l : ℕ) → o ≡ Some (m, l) → with_piece o t f ≡ f m l
one_read o t f m l e = rw e refl
