-- What holds of all conditions, loops and heads of a `switch`.
use Rattle.std.specs.Prelude.{List, ◌++◌}
use Rattle.swift_ast.specs.declared.tree.Condition.{Condition}
use Rattle.swift_ast.specs.declared.tree.Expr.{Expr}
use Rattle.swift_ast.specs.declared.tree.SwitchCase.{SwitchCase}
use Rattle.swift_core.specs.Typing as typing
use Rattle.swift_core.specs.Typing.{IsOver}
use Rattle.swift_core.specs.declared.code.Code.{Code}
use Rattle.swift_core.specs.declared.term.Core.{Core}
use Rattle.type_base.specs.Context.{Context}
use Rattle.case_rules.specs.Cases.{Label, SubjectRule}
use Rattle.case_rules.specs.Conditions.{CheckedAll, ConditionsRule}
use Rattle.case_rules.specs.Overs.{Gone, OverRule}
use Rattle.expr_cores.specs.Contexts.{core_context, core_locals, Fits}
use Rattle.stmt_cores.specs.Cases.{GoodSubject}

abbrev pub ConditionsTyped : Type 0
ConditionsTyped = (blocks : List Code) (cs : List Condition) (cx : Context) (r : CheckedAll) → Fits cx.table → ConditionsRule cs cx r
    → typing.Conditions (core_context cx blocks) (core_locals cx.locals) r.0 (core_locals (cx.locals ++ r.1))

abbrev pub OversTyped : Type 0
OversTyped = (blocks : List Code) (e : Expr) (cx : Context) (r : Gone) → Fits cx.table → OverRule e cx r → IsOver (core_context cx blocks) (core_locals cx.locals) r.0 r.1

-- the labels match each value of the type
abbrev pub SubjectsTyped : Type 0
SubjectsTyped = (e : Expr) (cs : List SwitchCase) (blocks : List Code) (cx : Context) (r : Core × List Label) → Fits cx.table → SubjectRule e cs cx r → GoodSubject cx blocks cs r
