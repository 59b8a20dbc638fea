use Rattle.case_rules.specs.Overs as exact
use Rattle.case_rules.proofs.laws.overs_are_found.Goals as goal

pub returns : goal.returns
returns c = record { law = exact.over_exact }
