use Rattle.type_base.specs.Context.{seen}
use Rattle.type_base.specs.Scopes.{Keeps}
use Rattle.type_cases.proofs.Turns.{ConditionsRest}
use Rattle.type_cases.proofs.conditions.each_condition.Given as goal

abbrev pub invariant-loop-each : goal.invariant-loop-each
invariant-loop-each l = record { kept : Keeps l.fn.scope l.scope; rest : ConditionsRest l.conditions (seen l.fn.scope) l.scope l.each-index l.checked }
