-- Which locals a block uses, what code it runs, and whether it writes cells.
use Rattle.std.specs.Prelude.{ℕ, Bool, true, false, ◌||◌, List, [], ◌∷◌, ◌++◌, Option, Some, None, nat_eq, nat_lt, slice_get, if◌then◌else◌}
use Rattle.std.specs.List.{list_any, flat_map}
use Rattle.swift_core.specs.declared.code.Code.{Code}
use Rattle.swift_core.specs.declared.code.CodeForm.{CodeForm}
use Rattle.swift_core.specs.declared.code.CodeForm.TheVariants as code
use Rattle.swift_core.specs.declared.code.CoreMember.{CoreMember}
use Rattle.swift_core.specs.declared.ids.CodeId.{CodeId}
use Rattle.swift_core.specs.declared.mention.Mention.{Mention}
use Rattle.swift_core.specs.declared.mention.Mention.TheVariants as mention
use Rattle.swift_core.specs.Mentions.{Mentions, form_mentions}

-- ---- locals

-- what a block keeps
abbrev pub kept_by : Option Code → List ℕ
kept_by None = []
kept_by (Some c) = c.kept

-- the locals that a mention uses; those that a block uses are told by what it keeps
abbrev pub locals_of : List Code → Mention → List ℕ
locals_of blocks (mention.Local i) = i ∷ []
locals_of blocks (mention.Code code) = []
locals_of blocks mention.Write = []
locals_of blocks (mention.Block block) = kept_by (slice_get blocks block.number)

-- the number at the end, unless it is there or not below the limit
abbrev pub with_use : ℕ → List ℕ → ℕ → List ℕ
with_use limit uses i = if nat_lt i limit then (if list_any (nat_eq i) uses then uses else uses ++ i ∷ []) else uses

-- the numbers below the limit, each once, in the order in which each comes first
unfoldable pub first_uses : ℕ → List ℕ → List ℕ → List ℕ
first_uses limit uses [] = uses
first_uses limit uses (i ∷ rest) = first_uses limit (with_use limit uses i) rest

-- The places, below the number of the locals that stand where it is written, of the locals that a piece of code uses.
abbrev pub locals_used : List Code → ℕ → CodeForm → List ℕ
locals_used blocks outer form = first_uses outer [] (flat_map (locals_of blocks) (form_mentions form))

-- ---- writes and calls outside action blocks

abbrev pub is_write : Mention → Bool
is_write mention.Write = true
is_write other = false

-- a piece of code writes a state slot, or through a binding
abbrev pub writes_cells : CodeForm → Bool
writes_cells form = list_any is_write (form_mentions form)

abbrev pub code_of : Mention → List CodeId
code_of (mention.Code code) = code ∷ []
code_of other = []

-- the code that a piece of code runs
abbrev pub calls_of : CodeForm → List CodeId
calls_of form = flat_map code_of (form_mentions form)

-- The pieces of a member that run outside action blocks: its own code, and the builders of its preference readers.
abbrev pub body_forms : Option Code → List CodeForm
body_forms None = []
body_forms (Some c) = c.form ∷ []

abbrev pub reader_forms : CodeForm → List CodeForm
reader_forms (code.Builder items) = code.Builder items ∷ []
reader_forms other = []

abbrev pub run_forms : CoreMember → List CodeForm
run_forms m = body_forms m.code ++ flat_map (λ (c : Code). reader_forms c.form) m.blocks

-- a member writes a state slot or through a binding outside action blocks
abbrev pub member_writes : CoreMember → Bool
member_writes m = list_any writes_cells (run_forms m)

-- the code that a member runs outside action blocks
abbrev pub member_calls : CoreMember → List CodeId
member_calls m = flat_map calls_of (run_forms m)
