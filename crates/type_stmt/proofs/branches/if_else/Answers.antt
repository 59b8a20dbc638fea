use Rattle.std.proofs.Common.{option_copied}
use Rattle.swift_ast.specs.declared.tree.Stmt.{Stmt}
use Rattle.type_base.specs.Rules.{FindPart}
use Rattle.stmt_rules.specs.declared.done.Done.{Done}
use Rattle.stmt_rules.specs.Search.{find_stmt_to}
use Rattle.type_stmt.proofs.Forms.{else_found}
use Rattle.type_stmt.proofs.branches.if_else.Goals as goal

pub returns : goal.returns
returns g c =
    let f : Stmt → FindPart Done = λ s. find_stmt_to c.args.within.now.room s (option_copied c.args.within.now.result) c.args.exits in
    record { found = else_found f c.args.list.now c.args.last.now c.args.scope.now c.arms.new.scope c.braces.new.scope c.in_ok-arms.arms c.in_ok-body.body c.both.result c.either.result c.in_ok-arms.ensures.found c.in_ok-body.ensures.found c.both.ensures.value c.either.ensures.value }
