use Rattle.std.proofs.Common.{rules, arith, option_copied}
use Rattle.swift_ast.specs.declared.tree.Stmt.{Stmt}
use Rattle.type_base.specs.Rules.{FindPart}
use Rattle.stmt_rules.specs.declared.done.Done.{Done}
use Rattle.stmt_rules.specs.Search.{find_stmt_to}
use Rattle.type_stmt.proofs.Turns.{under_found, under_fails}
use Rattle.type_stmt.proofs.branches.under_conditions.Goals as goal

pub returns : goal.returns
returns g c =
    let f : Stmt → FindPart Done = λ s. find_stmt_to c.args.within.now.room s (option_copied c.args.within.now.result) c.args.exits in
    record { found = under_found f c.args.conditions.now c.args.list.now c.args.scope.now _ _ c.in_ok-checked.checked c.in_ok-body.body c.in_ok-checked.ensures.found c.in_ok-body.ensures.found }

pub returns-in_err-body : goal.returns-in_err-body
returns-in_err-body g c =
    let f : Stmt → FindPart Done = λ s. find_stmt_to c.args.within.now.room s (option_copied c.args.within.now.result) c.args.exits in
    let failed = under_fails f c.args.conditions.now c.args.list.now c.args.scope.now _ _ c.in_ok-checked.checked _ c.in_ok-checked.ensures.found c.in_err-body.ensures.found in
    record { found = first_of (search (rules, failed), grind (arith, failed)) }
