-- How the first writer is found.
use Rattle.std.specs.Prelude.{◌≡◌, ◌↔◌, ℕ, suc, ◌<◌, Bool, true, false, ◌&&◌, List, length, slice_get, Option, Some, None, map}
use Rattle.swift_core.specs.declared.ids.CodeId.{CodeId}
use Rattle.swift_core.specs.declared.table.Table.{Table}
use Rattle.swift_core.specs.declared.code.CoreMember.{CoreMember}
use Rattle.swift_core.specs.Uses.{member_writes, member_calls}
use Rattle.swift_core.specs.Programs.{Reaches}
use Rattle.call_reach.specs.declared.search.Conduct.{Conduct}
use Rattle.call_reach.specs.Reaching.{is_marked}
use Rattle.part_rules.specs.Writers.{signature_of, is_body_of}

abbrev pub number_of : CodeId → ℕ
number_of c = c.number

-- a member writes a state slot or through a binding outside action blocks
unfoldable pub writes_of : CoreMember → Bool
writes_of m = member_writes m

-- the numbers of the code that a member runs there
unfoldable pub calls_of : CoreMember → List ℕ
calls_of m = map number_of (member_calls m)

-- what a member does
abbrev pub conduct_of : CoreMember → Conduct
conduct_of m = record { writes = writes_of m; calls = calls_of m }

-- by the marks of those that reach a write
abbrev pub is_writer : Table → List Bool → ℕ → Bool
is_writer table marks i = is_body_of (signature_of table i) && is_marked marks (suc i)

-- the place of the first number below a limit that passes
abbrev pub IsFirst : Option ℕ → (ℕ → Bool) → ℕ → Type 0
IsFirst None test limit = (j : ℕ) → j < limit → test j ≡ false
IsFirst (Some at) test limit = (at < limit) × (test at ≡ true) × ((j : ℕ) → j < at → test j ≡ false)

-- the first number that passes, and its line
pub record FirstLine (test : ℕ → Bool) (lines : List ℕ) (line : ℕ) : Type 0 where
  pub at : ℕ
  pub stands : slice_get lines at ≡ Some line
  pub passes : test at ≡ true
  pub none_before : (j : ℕ) → j < at → test j ≡ false

-- the line of the first number that passes, where there is a line of such a number
unfoldable pub IsFirstLine : Option ℕ → (ℕ → Bool) → List ℕ → Type 0
IsFirstLine None test lines = (j : ℕ) → j < length lines → test j ≡ false
IsFirstLine (Some line) test lines = FirstLine test lines line

-- the marks say which members reach a write
unfoldable pub AreMarks : List CoreMember → List Bool → Type 0
AreMarks members marks = (i : ℕ) → (is_marked marks i ≡ true) ↔ Reaches members i
