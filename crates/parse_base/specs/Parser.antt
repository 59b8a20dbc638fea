-- Reading tokens from the left: each parser answers what it read and what is left, or nothing.
use Rattle.std.specs.Prelude.{◌≡◌, ℕ, zero, suc, ◌+◌, Bool, false, if◌then◌else◌, List, [], ◌∷◌, ◌++◌, length, Option, Some, None, is_some, Result, Ok, Err}
use Rattle.swift_lex.specs.declared.token.Token.{Token}
use Rattle.swift_ast.specs.declared.span.Span.{Span}
use Rattle.parse_base.specs.declared.stop.Stop.{Stop}
use Rattle.parse_base.specs.declared.stop.Stop.TheVariants.{Memory, Refused}
use Rattle.parse_base.specs.Spans.{span_of}

abbrev pub Outcome : Type 0 → Type 0
Outcome A = Option (A × List Token)

abbrev pub Parser : Type 0 → Type 0
Parser A = List Token → Outcome A

abbrev pub and_then : {A B : Type 0} → Outcome A → (A → List Token → Outcome B) → Outcome B
and_then (Some p) f = f p.0 p.1
and_then None f = None

-- what one token is read as, seeing what stands behind it
abbrev pub Terminal : Type 0 → Type 0
Terminal A = Token → List Token → Option A

abbrev pub with_rest : {A : Type 0} → List Token → Option A → Outcome A
with_rest rest (Some x) = Some (x, rest)
with_rest rest None = None

abbrev pub taken : {A : Type 0} → Terminal A → Parser A
taken f [] = None
taken f (t ∷ ts) = with_rest ts (f t ts)

unfoldable pub take_one : {A : Type 0} → Terminal A → Parser A
take_one f = taken f

abbrev pub starts_by : {A : Type 0} → Terminal A → List Token → Bool
starts_by f [] = false
starts_by f (t ∷ ts) = is_some (f t ts)

unfoldable pub starts : {A : Type 0} → Terminal A → List Token → Bool
starts f = starts_by f

unfoldable pub both : {A B : Type 0} → Parser A → Parser B → Parser (A × B)
both p q = λ ts. and_then (p ts) (λ a mid. and_then (q mid) (λ b rest. Some ((a, b), rest)))

-- the second parser depends on what the first read
unfoldable pub then_by : {A B : Type 0} → Parser A → (A → Parser B) → Parser (A × B)
then_by p q = λ ts. and_then (p ts) (λ a mid. and_then (q a mid) (λ b rest. Some ((a, b), rest)))

unfoldable pub made : {A B : Type 0} → (A → B) → Parser A → Parser B
made f p = λ ts. and_then (p ts) (λ a rest. Some (f a, rest))

-- made with the span of its tokens, in a file of so many tokens
unfoldable pub spanned : {A B : Type 0} → ℕ → (Span → A → B) → Parser A → Parser B
spanned total f p = λ ts. and_then (p ts) (λ a rest. Some (f (span_of total ts rest) a, rest))

-- only what passes the test
unfoldable pub such : {A : Type 0} → (A → Bool) → Parser A → Parser A
such test p = λ ts. and_then (p ts) (λ a rest. if test a then Some (a, rest) else None)

unfoldable pub choose : {A : Type 0} → (List Token → Bool) → Parser A → Parser A → Parser A
choose test p q = λ ts. if test ts then p ts else q ts

-- as many as begin so, and at most n
unfoldable pub many : {A : Type 0} → (List Token → Bool) → Parser A → ℕ → List A → Parser (List A)
many test item zero found ts = if test ts then None else Some (found, ts)
many test item (suc n) found ts = if test ts then and_then (item ts) (λ x rest. many test item n (found ++ x ∷ []) rest) else Some (found, ts)

-- how many begin so, and at most n
unfoldable pub counted : (List Token → Bool) → Parser (Unit {0}) → ℕ → ℕ → Parser ℕ
counted test item zero found ts = if test ts then None else Some (found, ts)
counted test item (suc n) found ts = if test ts then and_then (item ts) (λ x rest. counted test item n (found + 1) rest) else Some (found, ts)

-- what the test announces, or nothing
unfoldable pub perhaps : {A : Type 0} → (List Token → Bool) → Parser A → Parser (Option A)
perhaps test p = λ ts. if test ts then and_then (p ts) (λ x rest. Some (Some x, rest)) else Some (None, ts)

-- as many as begin so; each takes a token, so the count of tokens is enough
unfoldable pub all : {A : Type 0} → (List Token → Bool) → Parser A → Parser (List A)
all test item = λ ts. many test item (length ts) [] ts

-- a list that is not empty, with commas between
unfoldable pub listed : {A : Type 0} → Terminal (Unit {0}) → Parser A → Parser (List A)
listed comma item = made (λ x. x.0 ∷ x.1) (both item (all (starts comma) (made (λ x. x.1) (both (take_one comma) item))))

-- nothing is taken
unfoldable pub only_where : (List Token → Bool) → Parser (Unit {0})
only_where test = λ ts. if test ts then Some (tt, ts) else None

-- what a function that parses ensures
abbrev pub Refuses : {A : Type 0} → Outcome A → Stop → Type 0
Refuses outcome Memory = Unit {0}
Refuses outcome Refused = outcome ≡ None

-- the answer and the tokens that are left are those of the outcome; after a refusal or want of memory nothing is said of the tokens
abbrev pub Reads : {A : Type 0} → Outcome A → Result A Stop → List Token → Type 0
Reads outcome (Ok a) new = outcome ≡ Some (a, new)
Reads outcome (Err e) new = Refuses outcome e
