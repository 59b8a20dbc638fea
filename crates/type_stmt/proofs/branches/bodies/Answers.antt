use Rattle.std.proofs.Common.{rules, ◌≡◌, ◌+◌, true, false, List, [], Some, slice_index_or, refl, sym, subst, option_copied}
use Rattle.swift_ast.specs.declared.tree.Stmt.{Stmt}
use Rattle.swift_ast.specs.declared.tree.SwitchCase.{out-SwitchCase}
use Rattle.swift_core.specs.declared.stmt.CoreStmt.{CoreStmt}
use Rattle.type_base.specs.declared.scope.Scope.{Scope}
use Rattle.type_base.specs.Context.{seen}
use Rattle.type_base.specs.Rules.{FindPart}
use Rattle.stmt_rules.specs.declared.done.Done.{Done}
use Rattle.stmt_rules.specs.declared.done.Body.{Body}
use Rattle.stmt_rules.specs.declared.done.Bodies.{Bodies}
use Rattle.stmt_rules.specs.Rules.{bodies}
use Rattle.stmt_rules.specs.Search.{find_stmt_to, braces}
use Rattle.type_stmt.proofs.Turns.{BodiesRest, bodies_start, bodies_turn}
use Rattle.type_stmt.specs.Parts.{more_bodies, one_of}
use Rattle.type_stmt.proofs.branches.bodies.Goals as goal

pub loop-case-init : goal.loop-case-init
loop-case-init g c =
    let f : Stmt → FindPart Done = λ s. find_stmt_to c.args.within.now.room s (option_copied c.args.within.now.result) c.args.exits in
    let none : c.new-first.result ≡ [] = search rules in
    record {
      same = refl;
      rest = subst (λ (xs : List (List CoreStmt)). BodiesRest f c.args.cases.now (seen c.args.scope.now) 0 (bodies xs true false)) (sym none) (bodies_start f c.args.cases.now (seen c.args.scope.now));
    }

pub loop-case-preserved : goal.loop-case-preserved
loop-case-preserved g c =
    let here : Scope = c.loop-case.scope in
    let r : Bodies = c.loop-case.bodies in
    let x : Body = c.in_ok-body.body in
    let f : Stmt → FindPart Done = λ s. find_stmt_to c.args.within.now.room s (option_copied c.args.within.now.result) c.args.exits in
    let here_found : braces f (out-SwitchCase c.case-item.result).body (seen here) ≡ Some x = search rules in
    let found : braces f (out-SwitchCase c.case-item.result).body (seen c.args.scope.now) ≡ Some x = subst (λ (s : Scope). braces f (out-SwitchCase c.case-item.result).body (seen s) ≡ Some x) c.loop-case.invariant.same here_found in
    let added : c.add_body.new.bodies ≡ more_bodies r (one_of x) = search rules in
    let is : c.case-item.result ≡ slice_index_or c.args.cases.now c.loop-case.case-index c.case-item.result = search rules in
    record {
      same = search rules;
      rest = subst (λ (b : Bodies). BodiesRest f c.args.cases.now (seen c.args.scope.now) (c.loop-case.case-index + 1) b) (sym added)
          (bodies_turn f c.args.cases.now (seen c.args.scope.now) c.loop-case.case-index r c.case-item.result x (search rules) is found c.loop-case.invariant.rest);
    }
