use Rattle.value_cores.specs.Values.{fillings_good}
use Rattle.value_cores.proofs.laws.fillings_are_well_typed.Goals as goal

pub returns : goal.returns
returns c = record { law = fillings_good }
