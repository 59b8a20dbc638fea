use Rattle.value_cores.specs.Values.{indices_good}
use Rattle.value_cores.proofs.laws.indices_are_well_typed.Goals as goal

pub returns : goal.returns
returns c = record { law = indices_good }
