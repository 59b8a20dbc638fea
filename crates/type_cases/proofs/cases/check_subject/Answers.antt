use Rattle.type_base.specs.Rules.{decided}
use Rattle.case_rules.specs.Cases.{subject_exact}
use Rattle.type_cases.proofs.cases.check_subject.Goals as goal

pub returns-clause-typed : goal.returns-clause-typed
returns-clause-typed c = decided _ _ _ (subject_exact _ _ _) c.head.ensures.found
