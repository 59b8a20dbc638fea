-- That a language takes at least as many tokens as a count of what it spells, and how that follows for what is made of parts.
use Rattle.std.proofs.Common.{◌≡◌, ℕ, ◌+◌, ◌≤◌, List, [], ◌∷◌, length, refl, ap, arith, inl, inr, length-append}
use Rattle.std.specs.Prelude.{Option, Some, None}
use Rattle.std.specs.List.{flat_map}
use Rattle.swift_lex.specs.declared.token.Token.{Token}
use Rattle.swift_ast.specs.declared.span.Span.{Span}
use Rattle.parse_base.specs.Parser.{Terminal}
use Rattle.parse_base.specs.Spans.{span_of}
use Rattle.parse_base.specs.Language.{Language, One, Both, Then, Made, Spanned, Either, Many, Perhaps, Listed}

pub record Takes {A : Type 0} (size : A → ℕ) (R : Language A) : Type 0 where
  pub at_least : (ts : List Token) (x : A) (rest : List Token) → R ts x rest → length rest + size x ≤ length ts

-- nothing is counted
abbrev pub zero_of : {A : Type 0} → A → ℕ
zero_of x = 0

abbrev pub one_of : {A : Type 0} → A → ℕ
one_of x = 1

abbrev pub total_of : {A : Type 0} → (A → ℕ) → List A → ℕ
total_of a [] = 0
total_of a (x ∷ xs) = a x + total_of a xs

pub less : {A : Type 0} {a b : A → ℕ} {R : Language A} → Takes a R → ((x : A) → b x ≤ a x) → Takes b R
less k h = record { at_least = λ ts x rest w. let u = h x in let v = k.at_least ts x rest w in omega arith }

-- nothing need be said of the tree
pub some_tokens : {A : Type 0} {a : A → ℕ} {R : Language A} → Takes a R → Takes zero_of R
some_tokens k = less k (λ x. omega arith)

pub one_takes : {A : Type 0} (f : Terminal A) → Takes one_of (One f)
unfolding One
one_takes f = record { at_least = λ ts x rest w. rw w.1 (omega arith) }

pub both_takes : {A B : Type 0} {a : A → ℕ} {b : B → ℕ} {R : Language A} {S : Language B} → Takes a R → Takes b S → Takes (λ (x : A × B). a x.0 + b x.1) (Both R S)
unfolding Both
both_takes h k = record { at_least = λ ts x rest w. let u = h.at_least ts x.0 w.0 w.1 in let v = k.at_least w.0 x.1 rest w.2 in omega arith }

pub then_takes : {A B : Type 0} {a : A → ℕ} {b : B → ℕ} {R : Language A} {S : A → Language B} → Takes a R → ((x : A) → Takes b (S x)) → Takes (λ (x : A × B). a x.0 + b x.1) (Then R S)
unfolding Then
then_takes h k = record { at_least = λ ts x rest w. let u = h.at_least ts x.0 w.0 w.1 in let v = (k x.0).at_least w.0 x.1 rest w.2 in omega arith }

pub made_takes : {A B : Type 0} {a : A → ℕ} {b : B → ℕ} {R : Language A} (f : A → B) → Takes a R → ((x : A) → b (f x) ≤ a x) → Takes b (Made f R)
unfolding Made
made_takes {b = b} f k h = record {
  at_least = λ ts y rest w.
      let u = h w.0 in
      let v = k.at_least ts w.0 rest w.1 in
      let e : b y ≡ b (f w.0) = ap b w.2 in
      omega arith;
}

pub spanned_takes : {A B : Type 0} {a : A → ℕ} {b : B → ℕ} {R : Language A} (total : ℕ) (f : Span → A → B) → Takes a R → ((s : Span) (x : A) → b (f s x) ≤ a x) → Takes b (Spanned total f R)
unfolding Spanned
spanned_takes {b = b} total f k h = record {
  at_least = λ ts y rest w.
      let u = h (span_of total ts rest) w.0 in
      let v = k.at_least ts w.0 rest w.1 in
      let e : b y ≡ b (f (span_of total ts rest) w.0) = ap b w.2 in
      omega arith;
}

pub either_takes : {A : Type 0} {a : A → ℕ} {R S : Language A} → Takes a R → Takes a S → Takes a (Either R S)
unfolding Either
either_takes {a = a} {R = R} {S = S} h k = record { at_least = λ ts x rest w. elim w [ inl v ↦ h.at_least ts x rest v | inr v ↦ k.at_least ts x rest v ] }

many_take : {A : Type 0} {a : A → ℕ} {R : Language A} → Takes a R → (ts : List Token) (xs : List A) (rest : List Token) → Many R ts xs rest → length rest + total_of a xs ≤ length ts
unfolding Many
many_take h ts [] rest w = rw w (omega arith)
many_take h ts (x ∷ xs) rest w = let u = h.at_least ts x w.0 w.1 in let v = many_take h w.0 xs rest w.2 in omega arith

pub many_takes : {A : Type 0} {a : A → ℕ} {R : Language A} → Takes a R → Takes (total_of a) (Many R)
many_takes h = record { at_least = many_take h }

perhaps_take : {A : Type 0} {R : Language A} → Takes zero_of R → (ts : List Token) (x : Option A) (rest : List Token) → Perhaps R ts x rest → length rest + 0 ≤ length ts
unfolding Perhaps
perhaps_take h ts None rest w = rw w (omega arith)
perhaps_take h ts (Some x) rest w = h.at_least ts x rest w

pub perhaps_takes : {A : Type 0} {R : Language A} → Takes zero_of R → Takes zero_of (Perhaps R)
perhaps_takes h = record { at_least = perhaps_take h }

pub listed_takes : {A : Type 0} {a : A → ℕ} {R : Language A} (comma : Terminal (Unit {0})) → Takes a R → Takes (total_of a) (Listed comma R)
unfolding Listed
listed_takes {a = a} comma h = made_takes _ (both_takes h (many_takes (made_takes {b = a} _ (both_takes (one_takes comma) h) (λ x. omega arith)))) (λ x. omega arith)

-- what is joined of lists is as long as they are together
pub joined_length : {X Y : Type 0} (f : X → List Y) (xs : List X) → length (flat_map f xs) ≡ total_of (λ x. length (f x)) xs
joined_length f [] = refl
joined_length f (x ∷ xs) = let e = joined_length f xs in let k = length-append (f x) (flat_map f xs) in omega arith
