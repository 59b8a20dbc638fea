use Rattle.source_sizes.proofs.Texts.{declarations_few, tokens_few}
use Rattle.member_cores.specs.Laws.{members_typed, defaults_typed}
use Rattle.value_types.specs.Tables.{types_found}
use Rattle.program_laws.specs.Programs.{spelt_is}
use Rattle.program_laws.proofs.laws.every_program_is_one.Goals as goal

pub returns : goal.returns
returns c = record { law = spelt_is declarations_few tokens_few members_typed defaults_typed (λ source cores small typed. types_found source) }
