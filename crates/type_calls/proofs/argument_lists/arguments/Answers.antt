use Rattle.std.proofs.Common.{rules, arith}
use Rattle.type_base.specs.Context.{seen}
use Rattle.expr_rules.specs.Levels.{infer_to}
use Rattle.type_calls.proofs.Turns.{arguments_fail}
use Rattle.type_calls.proofs.argument_lists.arguments.Goals as goal

pub returns-in_err-core-in-Some : goal.returns-in_err-core-in-Some
returns-in_err-core-in-Some g c =
    let failed = arguments_fail (infer_to c.args.inner.now.room) c.args.parameters.now c.args.arguments.now (seen c.args.scope.now) c.loop-parameter.parameter-index c.parameter-item.result c.loop-parameter.rest.now c.in-Some.others.now
    c.in-Some.argument.now c.loop-parameter.cores _ (omega (arith, c.loop-parameter-test.true)) c.parameter-item.is c.in-Some.ensures.cases.0 c.loop-parameter.invariant c.in_err-core-in-Some.ensures.found in
    record { found = first_of (search (rules, failed), grind (arith, failed)) }
