-- That the searches find what the rules relate.
use Rattle.std.specs.Prelude.{List}
use Rattle.swift_ast.specs.declared.tree.Condition.{Condition}
use Rattle.swift_ast.specs.declared.tree.Expr.{Expr}
use Rattle.swift_ast.specs.declared.tree.SwitchCase.{SwitchCase}
use Rattle.type_base.specs.Rules.{ExactPart}
use Rattle.case_rules.specs.Conditions.{ConditionsRule, find_conditions}
use Rattle.case_rules.specs.Overs.{OverRule, find_over}
use Rattle.case_rules.specs.Cases.{SubjectRule, find_subject}

abbrev pub ConditionsFound : Type 0
ConditionsFound = (cs : List Condition) → ExactPart (find_conditions cs) (ConditionsRule cs)

abbrev pub OversFound : Type 0
OversFound = (e : Expr) → ExactPart (find_over e) (OverRule e)

abbrev pub SubjectsFound : Type 0
SubjectsFound = (e : Expr) (cs : List SwitchCase) → ExactPart (find_subject e cs) (SubjectRule e cs)
