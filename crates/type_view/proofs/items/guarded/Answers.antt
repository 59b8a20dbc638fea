use Rattle.std.proofs.Common.{rules, arith}
use Rattle.view_rules.specs.Builds.{FindItems}
use Rattle.view_rules.specs.Items.{items_to}
use Rattle.type_view.specs.Turns.{arm_found, arm_without}
use Rattle.type_view.proofs.items.guarded.Goals as goal

pub returns : goal.returns
returns g c =
    let f : FindItems = items_to c.args.inner.now.room in
    record { found = arm_found f c.args.written.now c.args.statements.now c.args.scope.now _ _ c.args.blocks.now _ c.in_ok-conditions.conditions c.in_ok-body.body c.in_ok-conditions.ensures.found c.in_ok-body.ensures.found }

pub returns-in_err-body : goal.returns-in_err-body
returns-in_err-body g c =
    let f : FindItems = items_to c.args.inner.now.room in
    let failed = arm_without f c.args.written.now c.args.statements.now c.args.scope.now _ _ c.content.new.scope c.args.blocks.now _ c.content.new.blocks c.in_ok-conditions.conditions _ c.in_ok-conditions.ensures.found c.in_err-body.ensures.found in
    record { found = first_of (search (rules, failed), grind (arith, failed)) }
