use Rattle.member_cores.specs.Laws.{defaults_typed}
use Rattle.member_cores.proofs.laws.defaults_are_well_typed.Goals as goal

pub returns : goal.returns
returns c = record { law = defaults_typed }
