-- What a member mentions outside action blocks, in one list.
use Rattle.std.specs.Prelude.{List}
use Rattle.std.specs.List.{flat_map}
use Rattle.swift_core.specs.declared.code.Code.{Code}
use Rattle.swift_core.specs.declared.code.CoreMember.{CoreMember}
use Rattle.swift_core.specs.Mentions.{Mentions, form_mentions}
use Rattle.swift_core.specs.Uses.{reader_forms, run_forms}

-- what the builders of preference readers among these blocks mention, one after another
abbrev pub readers_mention : List Code → Mentions
readers_mention = flat_map (λ (c : Code). flat_map form_mentions (reader_forms c.form))

-- what the pieces of a member mention that run outside action blocks, one after another
abbrev pub run_mentions : CoreMember → Mentions
run_mentions m = flat_map form_mentions (run_forms m)
