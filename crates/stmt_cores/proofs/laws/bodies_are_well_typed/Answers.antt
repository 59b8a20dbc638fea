use Rattle.stmt_cores.specs.Statements.{body_good}
use Rattle.stmt_cores.proofs.laws.bodies_are_well_typed.Goals as goal

pub returns : goal.returns
returns c = record { law = body_good }
