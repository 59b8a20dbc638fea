-- What the builder of a preference reader may change and name.
use Rattle.std.specs.Prelude.{ℕ, Bool, true, ◌&&◌, nat_lt, []}
use Rattle.std.specs.List.{list_all}
use Rattle.swift_core.specs.declared.code.CodeForm.{CodeForm}
use Rattle.swift_core.specs.declared.code.CodeForm.TheVariants as code
use Rattle.swift_core.specs.declared.mention.Mention.{Mention}
use Rattle.swift_core.specs.declared.mention.Mention.TheVariants as mention
use Rattle.swift_core.specs.Alters.{Alters, items_alter}
use Rattle.swift_core.specs.Mentions.{form_mentions}

-- the locals that the items of a builder alter
abbrev pub form_alters : CodeForm → Alters
form_alters (code.Builder items) = items_alter items
form_alters other = []

-- a block that is named stands before this one
abbrev pub named_before : ℕ → Mention → Bool
named_before n (mention.Block block) = nat_lt block.number n
named_before n other = true

-- A rule of the language. A preference reader sees the locals that stand outside it, so many of them, and then the preference as
-- they are: its builder alters none of these. And it names only blocks that stand before it, the block of this number.
abbrev pub reader_keeps : ℕ → ℕ → CodeForm → Bool
reader_keeps outer n form = list_all (nat_lt outer) (form_alters form) && list_all (named_before n) (form_mentions form)
