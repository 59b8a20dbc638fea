use Rattle.value_cores.specs.Values.{wanted_good}
use Rattle.value_cores.proofs.laws.wanted_values_are_well_typed.Goals as goal

pub returns : goal.returns
returns c = record { law = wanted_good }
