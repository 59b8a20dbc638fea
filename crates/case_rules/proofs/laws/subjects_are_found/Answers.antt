use Rattle.case_rules.specs.Cases as exact
use Rattle.case_rules.proofs.laws.subjects_are_found.Goals as goal

pub returns : goal.returns
returns c = record { law = exact.subject_exact }
