use Rattle.std.proofs.Common.{rules, arith}
use Rattle.swift_core.specs.declared.item.ItemArm.{ItemArm}
use Rattle.type_base.specs.Context.{Context}
use Rattle.view_rules.specs.Builds.{FindBuild, Blocks}
use Rattle.view_rules.specs.Items.{items_to}
use Rattle.type_view.specs.Turns.{around_found, around_fails, arm_in}
use Rattle.type_view.proofs.items.enclosed.Goals as goal

pub returns : goal.returns
returns g c =
    let f : FindBuild ItemArm = λ (cx : Context) (bs : Blocks). arm_in (items_to c.args.inner.now.room) c.args.written.now c.args.statements.now cx bs in
    record { found = around_found f c.args.scope.now _ _ _ c.args.blocks.now _ _ _ c.in_ok-made.made c.enter-mark.ensures.entered c.in_ok-made.ensures.found c.enter-mark.ensures.locals c.enter-mark.ensures.floor c.leave.ensures.left }

pub returns-in_err-made : goal.returns-in_err-made
returns-in_err-made g c =
    let f : FindBuild ItemArm = λ (cx : Context) (bs : Blocks). arm_in (items_to c.args.inner.now.room) c.args.written.now c.args.statements.now cx bs in
    let failed = around_fails f c.args.scope.now _ _ c.guarded.new.scope c.args.blocks.now _ c.guarded.new.blocks _ c.enter-mark.ensures.entered c.in_err-made.ensures.found in
    record { found = first_of (search (rules, failed), grind (arith, failed)) }
