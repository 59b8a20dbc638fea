use Rattle.std.proofs.Common.{rules, ◌≡◌, ◌+◌, ◌++◌, ◌∷◌, [], List, Some, slice_index_or, refl, ◌∙◌}
use Rattle.swift_ast.specs.declared.tree.SwitchCase.{SwitchCase}
use Rattle.swift_core.specs.declared.item.CoreItem.{CoreItem}
use Rattle.type_base.specs.declared.scope.Scope.{Scope}
use Rattle.type_base.specs.Context.{seen}
use Rattle.view_rules.specs.Builds.{Blocks, FindBuild}
use Rattle.view_rules.specs.Items.{case_items, items_to}
use Rattle.type_view.specs.Turns.{every_start, every_turn}
use Rattle.type_view.proofs.items.bodies.Goals as goal

pub loop-case-init : goal.loop-case-init
loop-case-init g c = record {
  same = refl;
  rest = every_start (case_items (items_to c.args.inner.now.room)) c.args.cases.now (seen c.args.scope.now) c.args.blocks.now c.new-done.result (search rules);
}

pub loop-case-preserved : goal.loop-case-preserved
loop-case-preserved g c =
    let f : SwitchCase → FindBuild (List CoreItem) = case_items (items_to c.args.inner.now.room) in
    let here : Scope = c.loop-case.scope in
    let there : Scope = c.content.new.scope in
    let now : Blocks = c.loop-case.blocks in
    let next : Blocks = c.content.new.blocks in
    let body : List CoreItem = c.in_ok-body.body in
    let found : f c.case-item.result (seen here) now ≡ Some (body, next) = search rules in
    let kept : there ≡ here = search rules in
    let pushed : c.push.new.self ≡ c.loop-case.done ++ body ∷ [] = search rules in
    let is : c.case-item.result ≡ slice_index_or c.args.cases.now c.loop-case.case-index c.case-item.result = search rules in
    record {
      same = kept ∙ c.loop-case.invariant.same;
      rest = every_turn f c.args.cases.now c.args.scope.now here c.args.blocks.now c.loop-case.case-index c.loop-case.done c.push.new.self now next
          c.case-item.result body (search rules) is c.loop-case.invariant.same found pushed c.loop-case.invariant.rest;
    }
