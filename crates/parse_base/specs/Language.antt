-- A language says which tokens spell what: those from a list on, up to a rest of it.
-- Each line of the grammar is one definition, made of the words below. None of them looks ahead, but for `Greedy`.
use Rattle.std.specs.Prelude.{◌≡◌, ℕ, ◌≤◌, List, [], ◌∷◌, Option, Some, None, Bool, true, false, length, ◌⊎◌}
use Rattle.swift_lex.specs.declared.token.Token.{Token}
use Rattle.swift_ast.specs.declared.span.Span.{Span}
use Rattle.parse_base.specs.Parser.{Terminal}
use Rattle.parse_base.specs.Spans.{span_of}

abbrev pub Language : Type 0 → Type 1
Language A = List Token → A → List Token → Type 0

-- nothing spells anything
abbrev pub nothing : {A : Type 0} → Language A
nothing ts x rest = ⊥

-- one token
unfoldable pub One : {A : Type 0} → Terminal A → Language A
One f ts x rest = (t : Token) × (ts ≡ t ∷ rest) × (f t rest ≡ Some x)

-- one and then the other
unfoldable pub Both : {A B : Type 0} → Language A → Language B → Language (A × B)
Both R S ts x rest = (mid : List Token) × R ts x.0 mid × S mid x.1 rest

-- one and then another that depends on what the first spells
unfoldable pub Then : {A B : Type 0} → Language A → (A → Language B) → Language (A × B)
Then R S ts x rest = (mid : List Token) × R ts x.0 mid × S x.0 mid x.1 rest

-- the tree that is made of what R spells
unfoldable pub Made : {A B : Type 0} → (A → B) → Language A → Language B
Made f R ts y rest = (x : _) × R ts x rest × (y ≡ f x)

-- the tree that is made with the span, in a file of so many tokens
unfoldable pub Spanned : {A B : Type 0} → ℕ → (Span → A → B) → Language A → Language B
Spanned total f R ts y rest = (x : _) × R ts x rest × (y ≡ f (span_of total ts rest) x)

-- only what passes the test
unfoldable pub Such : {A : Type 0} → (A → Bool) → Language A → Language A
Such test R ts x rest = R ts x rest × (test x ≡ true)

-- one of two
unfoldable pub Either : {A : Type 0} → Language A → Language A → Language A
Either R S ts x rest = R ts x rest ⊎ S ts x rest

-- one after the other, also none
unfoldable pub Many : {A : Type 0} → Language A → Language (List A)
Many R ts [] rest = ts ≡ rest
Many R ts (x ∷ xs) rest = (mid : List Token) × R ts x mid × Many R mid xs rest

-- at most n of them
unfoldable pub UpTo : {A : Type 0} → ℕ → Language (List A) → Language (List A)
UpTo n R ts xs rest = R ts xs rest × (length xs ≤ n)

-- R or nothing
unfoldable pub Perhaps : {A : Type 0} → Language A → Language (Option A)
Perhaps R ts None rest = ts ≡ rest
Perhaps R ts (Some x) rest = R ts x rest

-- R where it is announced, and only else nothing
unfoldable pub Greedy : {A : Type 0} → (List Token → Bool) → Language A → Language (Option A)
Greedy test R ts None rest = (ts ≡ rest) × (test ts ≡ false)
Greedy test R ts (Some x) rest = (test ts ≡ true) × R ts x rest

-- no token, at a place that passes the test
unfoldable pub Where : (List Token → Bool) → Language (Unit {0})
Where test ts x rest = (ts ≡ rest) × (test ts ≡ true) × (x ≡ tt)

-- a list that is not empty, with commas between
unfoldable pub Listed : {A : Type 0} → Terminal (Unit {0}) → Language A → Language (List A)
Listed comma R = Made (λ x. x.0 ∷ x.1) (Both R (Many (Made (λ x. x.1) (Both (One comma) R))))
