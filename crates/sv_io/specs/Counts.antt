-- A count that never falls, and stays at its type's end.
use Rattle.std.specs.Prelude.{◌≡◌, ℕ, ◌+◌, ◌-◌, ◌^◌, ◌<◌, min, Bool, if◌then◌else◌, Option, Some}

-- the count rose, or stood at its end
abbrev pub Rose : ℕ → ℕ → Type 0
Rose before after = before < 2 ^ 64 - 1 → before < after

-- one more, as far as 64 bits go
abbrev pub one_more : ℕ → ℕ
one_more before = min (before + 1) (2 ^ 64 - 1)

-- the faults after a call: one more where it failed
abbrev pub faults_after : Bool → ℕ → ℕ
faults_after failed before = if failed then one_more before else before

-- a fact of the value, where it is told
abbrev pub WhenTold : {A : Type 0} → Option A → (A → Type 0) → Type 0
WhenTold {A} told P = (value : A) → told ≡ Some value → P value
