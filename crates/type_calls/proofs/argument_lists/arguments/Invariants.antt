use Rattle.type_base.specs.Context.{seen}
use Rattle.expr_rules.specs.Levels.{infer_to}
use Rattle.type_calls.proofs.Turns.{ArgumentsRest}
use Rattle.type_calls.proofs.argument_lists.arguments.Given as goal

abbrev pub invariant-loop-parameter : goal.invariant-loop-parameter
invariant-loop-parameter g l = ArgumentsRest (infer_to l.fn.inner.room) l.parameters l.fn.arguments (seen l.fn.scope) l.parameter-index l.rest l.cores
