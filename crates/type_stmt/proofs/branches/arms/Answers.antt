use Rattle.std.proofs.Common.{rules, ◌≡◌, ◌+◌, true, false, List, [], Some, slice_index_or, refl, sym, subst, option_copied}
use Rattle.swift_ast.specs.declared.tree.Stmt.{Stmt}
use Rattle.swift_core.specs.declared.stmt.Condition.{Condition as CoreCondition}
use Rattle.swift_core.specs.declared.stmt.StmtArm.{StmtArm}
use Rattle.type_base.specs.declared.scope.Scope.{Scope}
use Rattle.type_base.specs.Context.{seen}
use Rattle.type_base.specs.Rules.{FindPart}
use Rattle.stmt_rules.specs.declared.done.Done.{Done}
use Rattle.stmt_rules.specs.declared.done.Body.{Body}
use Rattle.stmt_rules.specs.declared.done.Arms.{Arms}
use Rattle.stmt_rules.specs.Rules.{arms}
use Rattle.stmt_rules.specs.Search.{find_stmt_to}
use Rattle.type_stmt.proofs.Turns.{ArmsRest, find_arm, arms_start, arms_turn}
use Rattle.type_stmt.specs.Parts.{more_arms, one_arm}
use Rattle.type_stmt.proofs.branches.arms.Goals as goal

pub loop-arm-init : goal.loop-arm-init
loop-arm-init g c =
    let f : Stmt → FindPart Done = λ s. find_stmt_to c.args.within.now.room s (option_copied c.args.within.now.result) c.args.exits in
    let none : c.new-first.result ≡ [] = search rules in
    record {
      same = refl;
      rest = subst (λ (xs : List StmtArm). ArmsRest f c.args.list.now (seen c.args.scope.now) 0 (arms xs true false)) (sym none) (arms_start f c.args.list.now (seen c.args.scope.now));
    }

pub loop-arm-preserved : goal.loop-arm-preserved
loop-arm-preserved g c =
    let here : Scope = c.loop-arm.scope in
    let r : Arms = c.loop-arm.arms in
    let x : List CoreCondition × Body = (c.in_ok-conditions.conditions, c.in_ok-conditions.body) in
    let f : Stmt → FindPart Done = λ s. find_stmt_to c.args.within.now.room s (option_copied c.args.within.now.result) c.args.exits in
    let here_found : find_arm f c.arm-item.result (seen here) ≡ Some x = search rules in
    let found : find_arm f c.arm-item.result (seen c.args.scope.now) ≡ Some x = subst (λ (s : Scope). find_arm f c.arm-item.result (seen s) ≡ Some x) c.loop-arm.invariant.same here_found in
    let added : c.add_arm.new.arms ≡ more_arms r (one_arm x) = search rules in
    let is : c.arm-item.result ≡ slice_index_or c.args.list.now c.loop-arm.arm-index c.arm-item.result = search rules in
    record {
      same = search rules;
      rest = subst (λ (b : Arms). ArmsRest f c.args.list.now (seen c.args.scope.now) (c.loop-arm.arm-index + 1) b) (sym added)
          (arms_turn f c.args.list.now (seen c.args.scope.now) c.loop-arm.arm-index r c.arm-item.result x (search rules) is found c.loop-arm.invariant.rest);
    }
