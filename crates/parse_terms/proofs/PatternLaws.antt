-- The parser of patterns reads the language of patterns.
use Rattle.std.proofs.Common.{◌≡◌, true, false, List, [], ◌∷◌, refl, codes, arith}
use Rattle.swift_lex.specs.declared.token.Token.{Token}
use Rattle.swift_lex.specs.declared.token.TokenKind.TheVariants as kind
use Rattle.parse_base.specs.Tokens.{is_sign}
use Rattle.parse_base.specs.Parser.{starts}
use Rattle.parse_base.specs.Terminals.{a_sign, a_name, a_text, string_open, string_close}
use Rattle.parse_base.proofs.Laws.{anything, one_exact, both_exact, fewer, made_exact, choose_exact, all_exact, or_cases}
use Rattle.parse_base.proofs.Seen.{Sees, sees, sees_open, sees_close, sees_name, sign_is, some_only, and_first}
use Rattle.parse_base.proofs.Readings.{Whole}
use Rattle.parse_terms.specs.Words.{a_plain, a_minus, a_number}
use Rattle.parse_terms.specs.Patterns.{MinusPattern, TextPattern, ImplicitPattern, MemberPattern, SpellsPattern, minus_pattern, text_pattern, implicit_pattern, member_pattern, read_pattern, begins_pattern}

pub sees_minus : (ts : List Token) → starts a_minus ts ≡ true → Sees (kind.Sign (codes "-")) ts
unfolding starts
sees_minus [] e = absurd cc
sees_minus (t ∷ ts) e = record { token = t; rest = ts; is = refl; kind_is = sign_is (codes "-") t.kind (and_first (is_sign (codes "-") t) _ (some_only _ tt e)) }

minus_no_plain : (ts : List Token) → starts a_minus ts ≡ true → starts a_plain ts ≡ false
unfolding starts
minus_no_plain ts e = let s = sees_minus ts e in rw (s.is, s.kind_is) refl

open_no_plain : (ts : List Token) → starts string_open ts ≡ true → starts a_plain ts ≡ false
unfolding starts
open_no_plain ts e = let s = sees_open ts e in rw (s.is, s.kind_is) refl

open_no_minus : (ts : List Token) → starts string_open ts ≡ true → starts a_minus ts ≡ false
unfolding starts
open_no_minus ts e = let s = sees_open ts e in rw (s.is, s.kind_is) refl

dot_no_plain : (ts : List Token) → starts (a_sign (codes ".")) ts ≡ true → starts a_plain ts ≡ false
unfolding starts
dot_no_plain ts e = let s = sees (codes ".") ts e in rw (s.is, s.kind_is) refl

dot_no_minus : (ts : List Token) → starts (a_sign (codes ".")) ts ≡ true → starts a_minus ts ≡ false
unfolding starts
dot_no_minus ts e = let s = sees (codes ".") ts e in rw (s.is, s.kind_is) refl

dot_no_open : (ts : List Token) → starts (a_sign (codes ".")) ts ≡ true → starts string_open ts ≡ false
unfolding starts
dot_no_open ts e = let s = sees (codes ".") ts e in rw (s.is, s.kind_is) refl

name_no_plain : (ts : List Token) → starts a_name ts ≡ true → starts a_plain ts ≡ false
unfolding starts
name_no_plain ts e = let s = sees_name ts e in rw (s.is, s.kind_is) refl

name_no_minus : (ts : List Token) → starts a_name ts ≡ true → starts a_minus ts ≡ false
unfolding starts
name_no_minus ts e = let s = sees_name ts e in rw (s.is, s.kind_is) refl

name_no_open : (ts : List Token) → starts a_name ts ≡ true → starts string_open ts ≡ false
unfolding starts
name_no_open ts e = let s = sees_name ts e in rw (s.is, s.kind_is) refl

name_no_dot : (ts : List Token) → starts a_name ts ≡ true → starts (a_sign (codes ".")) ts ≡ false
unfolding starts
name_no_dot ts e = let s = sees_name ts e in rw (s.is, s.kind_is) refl

close_no_text : (ts : List Token) → starts string_close ts ≡ true → starts a_text ts ≡ false
unfolding starts
close_no_text ts e = let s = sees_close ts e in rw (s.is, s.kind_is) refl

minus_exact : Whole 1 minus_pattern MinusPattern (starts a_minus) anything
unfolding minus_pattern MinusPattern
minus_exact n = made_exact _ (fewer (omega arith) (both_exact (one_exact n a_minus) (one_exact n a_number) (λ ts e. refl)))

text_exact : Whole 1 text_pattern TextPattern (starts string_open) anything
unfolding text_pattern TextPattern
text_exact n =
    made_exact _ (fewer (omega arith) (both_exact (one_exact n string_open)
    (both_exact (all_exact {k = 0} (record { exact = one_exact n a_text; begin = λ ts e. e; next = λ ts e. refl; last = λ ts e. refl; stop = close_no_text })) (one_exact n string_close) (λ ts e. e))
    (λ ts e. refl)))

implicit_exact : Whole 1 implicit_pattern ImplicitPattern (starts (a_sign (codes "."))) anything
unfolding implicit_pattern ImplicitPattern
implicit_exact n = made_exact _ (fewer (omega arith) (both_exact (one_exact n (a_sign (codes "."))) (one_exact n a_name) (λ ts e. refl)))

member_exact : Whole 1 member_pattern MemberPattern (starts a_name) anything
unfolding member_pattern MemberPattern
member_exact n = made_exact _ (fewer (omega arith) (both_exact (one_exact n a_name) (both_exact (one_exact n (a_sign (codes "."))) (one_exact n a_name) (λ ts e. refl)) (λ ts e. refl)))

pub pattern_exact : Whole 1 read_pattern SpellsPattern begins_pattern anything
unfolding read_pattern SpellsPattern begins_pattern
pattern_exact n =
    choose_exact (one_exact n a_plain)
    (choose_exact (minus_exact n)
    (choose_exact (text_exact n)
    (choose_exact (implicit_exact n) (member_exact n) (λ ts e. e) name_no_dot)
    (λ ts e. e) (λ ts e. or_cases _ _ e (dot_no_open ts) (name_no_open ts)))
    (λ ts e. e) (λ ts e. or_cases _ _ e (open_no_minus ts) (λ c. or_cases _ _ c (dot_no_minus ts) (name_no_minus ts))))
    (λ ts e. e) (λ ts e. or_cases _ _ e (minus_no_plain ts) (λ c. or_cases _ _ c (open_no_plain ts) (λ d. or_cases _ _ d (dot_no_plain ts) (name_no_plain ts))))
