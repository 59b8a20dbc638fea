use Rattle.std.proofs.Common.{rules, ◌≡◌, ◌+◌, ◌++◌, ◌∷◌, [], List, Some, slice_index_or, sym, subst}
use Rattle.swift_ast.specs.declared.tree.Condition.{out-Condition}
use Rattle.swift_core.specs.declared.stmt.Condition.{Condition as CoreCondition}
use Rattle.type_base.specs.declared.scope.Scope.{Scope}
use Rattle.type_base.specs.Context.{seen}
use Rattle.type_base.specs.Scopes.{Keeps, keeps_same}
use Rattle.case_rules.specs.Conditions.{Checked, condition_at}
use Rattle.case_rules.specs.Scopes.{any_pushed}
use Rattle.type_cases.proofs.Turns.{ConditionsRest, conditions_start, conditions_turn, keeps_any}
use Rattle.type_cases.proofs.conditions.each_condition.Goals as goal

pub loop-each-init : goal.loop-each-init
loop-each-init c =
    let none : c.new-checked.result ≡ [] = search rules in
    record {
      kept = keeps_same c.args.scope.now;
      rest = subst (λ (l : List CoreCondition). ConditionsRest c.args.conditions.now (seen c.args.scope.now) c.args.scope.now 0 l) (sym none) (conditions_start c.args.conditions.now c.args.scope.now);
    }

pub loop-each-preserved : goal.loop-each-preserved
loop-each-preserved c =
    let here : Scope = c.loop-each.scope in
    let x : Checked = (c.in_ok-core.core, c.in_ok-core.local) in
    let found : condition_at (out-Condition c.each-item.result) (seen here) ≡ Some x = search rules in
    let there : c.push_any.new.scope ≡ any_pushed here c.in_ok-core.local = search rules in
    let pushed : c.push.new.self ≡ c.loop-each.checked ++ c.in_ok-core.core ∷ [] = search rules in
    let is : c.each-item.result ≡ slice_index_or c.args.conditions.now c.loop-each.each-index c.each-item.result = search rules in
    record {
      kept = subst (λ (s : Scope). Keeps c.args.scope.now s) (sym there) (keeps_any _ _ _ c.loop-each.invariant.kept);
      rest = subst (λ (l : List CoreCondition). ConditionsRest c.args.conditions.now (seen c.args.scope.now) c.push_any.new.scope (c.loop-each.each-index + 1) l) (sym pushed)
          (conditions_turn c.args.conditions.now c.args.scope.now here c.push_any.new.scope c.loop-each.each-index c.loop-each.checked c.each-item.result x (search rules) is found there c.loop-each.invariant.kept c.loop-each.invariant.rest);
    }
