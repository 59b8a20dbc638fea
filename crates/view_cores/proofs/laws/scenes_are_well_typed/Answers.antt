use Rattle.view_cores.specs.Laws.{scenes_typed}
use Rattle.view_cores.proofs.laws.scenes_are_well_typed.Goals as goal

pub returns : goal.returns
returns c = record { law = scenes_typed }
