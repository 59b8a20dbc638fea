use Rattle.std.proofs.Common.{rules, ◌≡◌, ◌+◌, ◌++◌, ◌∷◌, [], Some, slice_index_or, sym, subst}
use Rattle.type_base.specs.declared.scope.Scope.{Scope}
use Rattle.type_base.specs.Context.{seen}
use Rattle.type_base.specs.Scopes.{Keeps, keeps_same}
use Rattle.case_rules.specs.Scopes.{any_pushed}
use Rattle.view_rules.specs.Builds.{Blocks, FindItems}
use Rattle.view_rules.specs.Items.{Made, item_form, find_item, items_to}
use Rattle.type_view.specs.Turns.{list_start, list_turn, keeps_any}
use Rattle.type_view.proofs.items.list.Goals as goal

pub loop-statement-init : goal.loop-statement-init
loop-statement-init g c = record {
  kept = keeps_same c.args.scope.now;
  rest = list_start (items_to c.args.inner.now.room) c.args.statements.now (seen c.args.scope.now) c.args.blocks.now c.new-done.result (search rules);
}

pub loop-statement-preserved : goal.loop-statement-preserved
loop-statement-preserved g c =
    let f : FindItems = items_to c.args.inner.now.room in
    let here : Scope = c.loop-statement.scope in
    let there : Scope = c.placed.new.scope in
    let now : Blocks = c.loop-statement.blocks in
    let next : Blocks = c.item.new.blocks in
    let made : Made = c.in_ok-made.made in
    let found : find_item f (item_form c.statement-item.result) (seen here) now ≡ Some (made, next) = search rules in
    let grown : there ≡ any_pushed here made.1 = first_of (search rules, cc) in
    let pushed : c.push.new.self ≡ c.loop-statement.done ++ made.0 ∷ [] = first_of (search rules, cc) in
    let is : c.statement-item.result ≡ slice_index_or c.args.statements.now c.loop-statement.statement-index c.statement-item.result = search rules in
    record {
      kept = subst (λ (s : Scope). Keeps c.args.scope.now s) (sym grown) (keeps_any _ _ _ c.loop-statement.invariant.kept);
      rest = list_turn f c.args.statements.now (seen c.args.scope.now) c.args.blocks.now here there c.loop-statement.statement-index c.loop-statement.done c.push.new.self now next
          c.statement-item.result made (search rules) is found grown pushed c.loop-statement.invariant.rest;
    }
