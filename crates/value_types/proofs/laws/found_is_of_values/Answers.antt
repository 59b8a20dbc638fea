use Rattle.value_types.specs.Tables.{types_found}
use Rattle.value_types.proofs.laws.found_is_of_values.Goals as goal

pub returns : goal.returns
returns c = record { law = types_found }
