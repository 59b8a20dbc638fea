use Rattle.std.proofs.Common.{rules, ◌≡◌, ◌+◌, ◌++◌, ◌∷◌, [], Some, slice_index_or, refl, ◌∙◌}
use Rattle.swift_ast.specs.declared.tree.Arm.{Arm}
use Rattle.swift_core.specs.declared.item.ItemArm.{ItemArm}
use Rattle.type_base.specs.declared.scope.Scope.{Scope}
use Rattle.type_base.specs.Context.{seen}
use Rattle.view_rules.specs.Builds.{Blocks, FindBuild}
use Rattle.view_rules.specs.Items.{find_arm, items_to}
use Rattle.type_view.specs.Turns.{every_start, every_turn}
use Rattle.type_view.proofs.items.arms.Goals as goal

pub loop-each-init : goal.loop-each-init
loop-each-init g c = record {
  same = refl;
  rest = every_start (find_arm (items_to c.args.inner.now.room)) c.args.arms.now (seen c.args.scope.now) c.args.blocks.now c.new-done.result (search rules);
}

pub loop-each-preserved : goal.loop-each-preserved
loop-each-preserved g c =
    let f : Arm → FindBuild ItemArm = find_arm (items_to c.args.inner.now.room) in
    let here : Scope = c.loop-each.scope in
    let there : Scope = c.arm.new.scope in
    let now : Blocks = c.loop-each.blocks in
    let next : Blocks = c.arm.new.blocks in
    let made : ItemArm = c.in_ok-made.made in
    let found : f c.each-item.result (seen here) now ≡ Some (made, next) = search rules in
    let kept : there ≡ here = search rules in
    let pushed : c.push.new.self ≡ c.loop-each.done ++ made ∷ [] = search rules in
    let is : c.each-item.result ≡ slice_index_or c.args.arms.now c.loop-each.each-index c.each-item.result = search rules in
    record {
      same = kept ∙ c.loop-each.invariant.same;
      rest = every_turn f c.args.arms.now c.args.scope.now here c.args.blocks.now c.loop-each.each-index c.loop-each.done c.push.new.self now next
          c.each-item.result made (search rules) is c.loop-each.invariant.same found pushed c.loop-each.invariant.rest;
    }
