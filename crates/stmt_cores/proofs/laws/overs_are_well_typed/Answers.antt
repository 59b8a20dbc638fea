use Rattle.stmt_cores.specs.Conditions.{over_good}
use Rattle.stmt_cores.proofs.laws.overs_are_well_typed.Goals as goal

pub returns : goal.returns
returns c = record { law = over_good }
