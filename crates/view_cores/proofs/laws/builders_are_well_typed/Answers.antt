use Rattle.view_cores.specs.Laws.{builders_typed}
use Rattle.view_cores.proofs.laws.builders_are_well_typed.Goals as goal

pub returns : goal.returns
returns c = record { law = builders_typed }
