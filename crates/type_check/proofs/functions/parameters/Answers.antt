use Rattle.std.proofs.Common.{rules, ◌<◌, length, ◌∙◌, arith}
use Rattle.type_base.specs.Context.{seen}
use Rattle.member_rules.specs.Members.{with_parameters}
use Rattle.type_check.proofs.Parameters.{different_lengths, parameters_turn, parameters_end}
use Rattle.type_check.proofs.functions.parameters.Goals as goal

pub returns-then-signatures-params : goal.returns-then-signatures-params
returns-then-signatures-params c = record { scoped = different_lengths _ _ _ c.if-signatures-params.true }

pub returns-in_err-take : goal.returns-in_err-take
returns-in_err-take c =
    let l : c.loop-i.i < length c.args.signatures.now = omega arith in
    let m : c.loop-i.i < length c.args.params.now = omega arith in
    let s = parameters_end c.in_err-take.field-0.0 c.take.new.scope (with_parameters c.args.signatures.now c.args.params.now (seen c.args.scope.now)) c.loop-i.i c.args.signatures.now c.args.params.now c.index-signatures-i.result c.index-params-i.result (seen c.loop-i.scope) c.loop-i.invariant l m c.index-signatures-i.is c.index-params-i.is (c.in_err-take.ensures {u = tt}).scoped in
    record { scoped = search (rules, s) }

pub loop-i-preserved : goal.loop-i-preserved
loop-i-preserved c =
    let l : c.loop-i.i < length c.args.signatures.now = omega arith in
    let m : c.loop-i.i < length c.args.params.now = omega arith in
    c.loop-i.invariant ∙ parameters_turn c.loop-i.i c.args.signatures.now c.args.params.now c.index-signatures-i.result c.index-params-i.result _ _ l m c.index-signatures-i.is c.index-params-i.is c.in_ok-take.ensures.scoped
