use Rattle.type_base.specs.Context.{seen}
use Rattle.type_cases.proofs.Turns.{LabelsRest}
use Rattle.type_cases.proofs.labels.labels.Given as goal

abbrev pub invariant-loop-each : goal.invariant-loop-each
invariant-loop-each l = LabelsRest l.ty l.cases (seen l.scope) l.each-index l.list
