use Rattle.std.proofs.Common.{rules, arith, option_copied}
use Rattle.swift_ast.specs.declared.tree.Stmt.{Stmt}
use Rattle.type_base.specs.Rules.{FindPart}
use Rattle.stmt_rules.specs.declared.done.Done.{Done}
use Rattle.stmt_rules.specs.Search.{find_stmt_to}
use Rattle.type_stmt.proofs.Around.{around_found, around_fails}
use Rattle.type_stmt.proofs.branches.guarded.Goals as goal

pub returns : goal.returns
returns g c =
    let f : Stmt → FindPart Done = λ s. find_stmt_to c.args.within.now.room s (option_copied c.args.within.now.result) c.args.exits in
    record { found = around_found f c.args.conditions.now c.args.list.now c.args.scope.now _ _ _ _ _ c.in_ok-found.found c.enter-mark.ensures.entered c.in_ok-found.ensures.found c.enter-mark.ensures.locals c.enter-mark.ensures.floor c.leave.ensures.left }

pub returns-in_err-found : goal.returns-in_err-found
returns-in_err-found g c =
    let f : Stmt → FindPart Done = λ s. find_stmt_to c.args.within.now.room s (option_copied c.args.within.now.result) c.args.exits in
    let failed = around_fails f c.args.conditions.now c.args.list.now c.args.scope.now _ _ _ c.enter-mark.ensures.entered c.in_err-found.ensures.found in
    record { found = first_of (search (rules, failed), grind (arith, failed)) }
