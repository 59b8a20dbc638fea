use Rattle.value_cores.specs.Values.{effect_good}
use Rattle.value_cores.proofs.laws.effects_are_well_typed.Goals as goal

pub returns : goal.returns
returns c = record { law = effect_good }
