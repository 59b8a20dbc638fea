use Rattle.value_cores.specs.Values.{binding_good}
use Rattle.value_cores.proofs.laws.bindings_are_well_typed.Goals as goal

pub returns : goal.returns
returns c = record { law = binding_good }
