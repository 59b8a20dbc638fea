use Rattle.std.proofs.Common.{rules, ◌≡◌, ◌+◌, false, List, [], Some, slice_index_or, sym, subst, option_copied}
use Rattle.swift_ast.specs.declared.tree.Stmt.{Stmt}
use Rattle.type_base.specs.declared.scope.Scope.{Scope}
use Rattle.type_base.specs.Context.{seen}
use Rattle.type_base.specs.Rules.{FindPart}
use Rattle.type_base.specs.Scopes.{Keeps, keeps_same}
use Rattle.case_rules.specs.Scopes.{any_pushed}
use Rattle.stmt_rules.specs.declared.done.Done.{Done}
use Rattle.stmt_rules.specs.declared.done.Body.{Body}
use Rattle.stmt_rules.specs.Rules.{body}
use Rattle.stmt_rules.specs.Search.{find_stmt_to}
use Rattle.swift_core.specs.declared.stmt.CoreStmt.{CoreStmt}
use Rattle.type_stmt.proofs.Turns.{StatementsRest, statements_start, statements_turn, keeps_any}
use Rattle.type_stmt.specs.Parts.{joined, body_of}
use Rattle.type_stmt.proofs.blocks.statements.Goals as goal

pub loop-stmt-init : goal.loop-stmt-init
loop-stmt-init g c =
    let f : Stmt → FindPart Done = λ s. find_stmt_to c.args.within.now.room s (option_copied c.args.within.now.result) c.args.exits in
    let none : c.new-core.result ≡ [] = search rules in
    record {
      kept = keeps_same c.args.scope.now;
      rest = subst (λ (xs : List CoreStmt). StatementsRest f c.args.list.now (seen c.args.scope.now) (seen c.args.scope.now) 0 (body xs false false)) (sym none) (statements_start f c.args.list.now (seen c.args.scope.now));
    }

pub loop-stmt-preserved : goal.loop-stmt-preserved
loop-stmt-preserved g c =
    let here : Scope = c.loop-stmt.scope in
    let r : Body = c.loop-stmt.body in
    let f : Stmt → FindPart Done = λ s. find_stmt_to c.args.within.now.room s (option_copied c.args.within.now.result) c.args.exits in
    let found : f c.stmt-item.result (seen here) ≡ Some c.in_ok-done.done = search rules in
    let there : c.absorb.new.scope ≡ any_pushed here c.in_ok-done.done.declared = search rules in
    let added : c.absorb.new.whole ≡ joined r.core r.ends r.breaks (body_of c.in_ok-done.done) = search rules in
    let is : c.stmt-item.result ≡ slice_index_or c.args.list.now c.loop-stmt.stmt-index c.stmt-item.result = search rules in
    record {
      kept = subst (λ (s : Scope). Keeps c.args.scope.now s) (sym there) (keeps_any _ _ _ c.loop-stmt.invariant.kept);
      rest = subst (λ (b : Body). StatementsRest f c.args.list.now (seen c.args.scope.now) (seen c.absorb.new.scope) (c.loop-stmt.stmt-index + 1) b) (sym added)
          (statements_turn f c.args.list.now (seen c.args.scope.now) here c.absorb.new.scope c.loop-stmt.stmt-index r c.stmt-item.result c.in_ok-done.done (search rules) is found there c.loop-stmt.invariant.rest);
    }
