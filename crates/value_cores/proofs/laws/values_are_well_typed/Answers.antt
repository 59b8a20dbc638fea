use Rattle.value_cores.specs.Values.{value_good}
use Rattle.value_cores.proofs.laws.values_are_well_typed.Goals as goal

pub returns : goal.returns
returns c = record { law = value_good }
