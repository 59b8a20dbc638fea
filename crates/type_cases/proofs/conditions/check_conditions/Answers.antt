use Rattle.case_rules.specs.Conditions.{conditions_exact, decided_conditions}
use Rattle.type_cases.proofs.conditions.check_conditions.Goals as goal

pub returns-clause-typed : goal.returns-clause-typed
returns-clause-typed c = decided_conditions _ _ _ _ _ (conditions_exact _ _) c.each_condition.ensures.found
