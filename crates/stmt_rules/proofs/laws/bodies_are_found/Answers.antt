use Rattle.stmt_rules.specs.Exacts as exact
use Rattle.stmt_rules.proofs.laws.bodies_are_found.Goals as goal

pub returns : goal.returns
returns c = record { law = exact.body_exact }
