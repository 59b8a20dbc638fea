use Rattle.value_cores.specs.Values.{arguments_good}
use Rattle.value_cores.proofs.laws.arguments_are_well_typed.Goals as goal

pub returns : goal.returns
returns c = record { law = arguments_good }
