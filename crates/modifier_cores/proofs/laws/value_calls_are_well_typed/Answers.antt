use Rattle.modifier_cores.specs.Values.{value_call_good}
use Rattle.modifier_cores.proofs.laws.value_calls_are_well_typed.Goals as goal

pub returns : goal.returns
returns c = record { law = value_call_good }
