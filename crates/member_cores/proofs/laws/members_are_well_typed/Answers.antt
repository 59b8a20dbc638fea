use Rattle.member_cores.specs.Laws.{members_typed}
use Rattle.member_cores.proofs.laws.members_are_well_typed.Goals as goal

pub returns : goal.returns
returns c = record { law = members_typed }
