-- The cases of a `switch`.
use Rattle.std.specs.Prelude.{◌≡◌, ℕ, zero, suc, Bool, true, false, ◌||◌, List, [], ◌∷◌, Option, Some, None, map, slice_get}
use Rattle.std.specs.List.{list_any}
use Rattle.std.proofs.Common.{refl, ap, inl, inr, ◌∙◌}
use Rattle.sv_value.specs.declared.value.Value.{Value}
use Rattle.swift_core.specs.declared.table.Table.{Table}
use Rattle.swift_core.specs.declared.ty.Ty.{Ty}
use Rattle.swift_core.specs.Typing.{Covers}
use Rattle.swift_core.specs.Values.{HasValue}
use Rattle.value_calls.specs.Same.{same, same_decides}
use Rattle.core_means.specs.Means.{matches}

-- A value of the type is matched by one of the cases, where these cover the type. The list has the patterns of each case.
abbrev pub CasesMatch : Type 0
CasesMatch = (table : Table) (t : Ty) (v : Value) (ps : List (Option (List Value)))
    → Covers table t ps → HasValue table t v → list_any (matches v) ps ≡ true

or_true : (b : Bool) → b || true ≡ true
or_true true = refl
or_true false = refl

-- an element that passes
pub passes_at : {X : Type 0} (test : X → Bool) (xs : List X) (i : ℕ) (x : X) → slice_get xs i ≡ Some x → test x ≡ true → list_any test xs ≡ true
passes_at test [] i x e h = cc
passes_at test (y ∷ xs) zero x e h =
    let same_element : y ≡ x = cc in
    ap (λ b. b || list_any test xs) (ap test same_element ∙ h)
passes_at test (y ∷ xs) (suc i) x e h = ap (λ b. test y || b) (passes_at test xs i x e h) ∙ or_true (test y)

pub cases_match : CasesMatch
cases_match table t v ps (inl (i, e)) h = passes_at (matches v) ps i None e refl
cases_match table t v ps (inr covered) h =
    let there = covered v h in
    passes_at (matches v) ps there.0 (Some there.1.0) there.1.1 (passes_at (same v) there.1.0 there.1.2.0 v there.1.2.1 ((same_decides v v).1 refl))

-- the same of cases with their patterns
pub passes_mapped : {X Y : Type 0} (f : X → Y) (test : Y → Bool) (xs : List X) → list_any test (map f xs) ≡ list_any (λ x. test (f x)) xs
passes_mapped f test [] = refl
passes_mapped f test (x ∷ xs) = ap (λ b. test (f x) || b) (passes_mapped f test xs)
