-- A recursion on a count of turns, beside a loop that counts up.
use Rattle.std.proofs.Common.{◌≡◌, ℕ, suc, ◌+◌, ◌-◌, ◌<◌, ◌≤◌, ap, ◌∙◌, arith, Bool, cond, List, [], ◌∷◌, ◌++◌, refl}
use Rattle.std.specs.Prelude.{Some, None}
use Rattle.swift_lex.specs.declared.token.Token.{Token}
use Rattle.parse_base.specs.Parser.{Parser, and_then, many, counted}

pub one_more : {X : Type 0} {x : X} (f : ℕ → X) (n at : ℕ) → at < n → x ≡ f (n - at) → x ≡ f (suc (n - (at + 1)))
one_more f n at below e = let turn : n - at ≡ suc (n - (at + 1)) = omega arith in e ∙ ap f turn

pub no_more : {X : Type 0} {x : X} (f : ℕ → X) (n at : ℕ) → n ≤ at → x ≡ f (n - at) → x ≡ f 0
no_more f n at done e = let none : n - at ≡ 0 = omega arith in e ∙ ap f none

pub deeper : {X : Type 0} (f : ℕ → X) (n : ℕ) → 0 < n → f n ≡ f (suc (n - 1))
deeper f n some = let e : n ≡ suc (n - 1) = omega arith in ap f e

-- one turn of a repetition that counts up
pub many_turn : {A : Type 0} (test : List Token → Bool) (item : Parser A) (n at : ℕ) (found : List A) (ts : List Token) → at < n
    → many test item (n - at) found ts ≡ cond (test ts) (and_then (item ts) (λ x rest. many test item (n - (at + 1)) (found ++ x ∷ []) rest)) (Some (found, ts))
unfolding many
many_turn test item n at found ts lt = let turn : n - at ≡ suc (n - (at + 1)) = omega arith in rw turn refl

pub many_end : {A : Type 0} (test : List Token → Bool) (item : Parser A) (n at : ℕ) (found : List A) (ts : List Token) → n ≤ at
    → many test item (n - at) found ts ≡ cond (test ts) None (Some (found, ts))
unfolding many
many_end test item n at found ts le = let none : n - at ≡ 0 = omega arith in rw none refl

-- one turn of a count
pub counted_turn : (test : List Token → Bool) (item : Parser (Unit {0})) (n at found : ℕ) (ts : List Token) → at < n
    → counted test item (n - at) found ts ≡ cond (test ts) (and_then (item ts) (λ x rest. counted test item (n - (at + 1)) (found + 1) rest)) (Some (found, ts))
unfolding counted
counted_turn test item n at found ts lt = let turn : n - at ≡ suc (n - (at + 1)) = omega arith in rw turn refl

pub counted_end : (test : List Token → Bool) (item : Parser (Unit {0})) (n at found : ℕ) (ts : List Token) → n ≤ at
    → counted test item (n - at) found ts ≡ cond (test ts) None (Some (found, ts))
unfolding counted
counted_end test item n at found ts le = let none : n - at ≡ 0 = omega arith in rw none refl
