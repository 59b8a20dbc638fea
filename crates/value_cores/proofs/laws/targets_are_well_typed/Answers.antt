use Rattle.value_cores.specs.Values.{target_good}
use Rattle.value_cores.proofs.laws.targets_are_well_typed.Goals as goal

pub returns : goal.returns
returns c = record { law = target_good }
