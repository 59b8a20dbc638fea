use Rattle.type_base.specs.Rules.{decided}
use Rattle.case_rules.specs.Overs.{over_exact}
use Rattle.type_cases.proofs.overs.check_over.Goals as goal

pub returns-clause-typed : goal.returns-clause-typed
returns-clause-typed c = decided _ _ _ (over_exact _ _) c.over.ensures.found
