use Rattle.case_rules.specs.Conditions as exact
use Rattle.case_rules.proofs.laws.conditions_are_found.Goals as goal

pub returns : goal.returns
returns c = record { law = exact.conditions_exact }
