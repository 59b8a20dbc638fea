-- Who calls whom, the other way round.
use Rattle.std.specs.Prelude.{ℕ, zero, suc, List, [], ◌∷◌, ◌++◌, map, Option, Some, None, slice_get, if◌then◌else◌}
use Rattle.call_reach.specs.declared.search.Conduct.{Conduct}

abbrev pub or_none : Option (List ℕ) → List ℕ
or_none None = []
or_none (Some xs) = xs

-- the list at a place, or the empty list past the end
abbrev pub row : List (List ℕ) → ℕ → List ℕ
row callers j = or_none (slice_get callers j)

-- one more caller of a member
abbrev pub with_caller : ℕ → List (List ℕ) → ℕ → List (List ℕ)
with_caller i [] j = []
with_caller i (xs ∷ xss) zero = (xs ++ i ∷ []) ∷ xss
with_caller i (xs ∷ xss) (suc j) = xs ∷ with_caller i xss j

-- one more caller of each of these members
abbrev pub with_calls : ℕ → List (List ℕ) → List ℕ → List (List ℕ)
with_calls i callers [] = callers
with_calls i callers (j ∷ js) = with_calls i (with_caller i callers j) js

-- the callers that the members have from these members, of which the first has the number i
abbrev pub callers_from : ℕ → List (List ℕ) → List Conduct → List (List ℕ)
callers_from i callers [] = callers
callers_from i callers (m ∷ ms) = callers_from (suc i) (with_calls i callers m.calls) ms

abbrev pub none_yet : Conduct → List ℕ
none_yet m = []

-- for each member those that call it
abbrev pub callers_of : List Conduct → List (List ℕ)
callers_of members = callers_from 0 (map none_yet members) members

abbrev pub itself_if : Conduct → ℕ → List ℕ
itself_if m i = if m.writes then i ∷ [] else []

-- the numbers of those that write
abbrev pub writers_from : ℕ → List Conduct → List ℕ
writers_from i [] = []
writers_from i (m ∷ ms) = itself_if m i ++ writers_from (suc i) ms
