use Rattle.stmt_cores.specs.Conditions.{conditions_good}
use Rattle.stmt_cores.proofs.laws.conditions_are_well_typed.Goals as goal

pub returns : goal.returns
returns c = record { law = conditions_good }
