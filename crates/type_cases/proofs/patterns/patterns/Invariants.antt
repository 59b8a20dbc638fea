use Rattle.type_base.specs.Context.{seen}
use Rattle.type_cases.proofs.Turns.{PatternsRest}
use Rattle.type_cases.proofs.patterns.patterns.Given as goal

abbrev pub invariant-loop-each : goal.invariant-loop-each
invariant-loop-each l = PatternsRest l.ty l.patterns (seen l.scope) l.each-index l.values
