use Rattle.value_types.specs.Levels.{infer_of_values}
use Rattle.value_types.proofs.laws.inferred_is_of_values.Goals as goal

pub returns : goal.returns
returns c = record { law = infer_of_values }
