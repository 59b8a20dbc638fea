use Rattle.value_types.specs.Tables.{completed_of_values}
use Rattle.value_types.proofs.laws.completed_is_of_values.Goals as goal

pub returns : goal.returns
returns c = record { law = completed_of_values }
