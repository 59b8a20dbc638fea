use Rattle.std.proofs.Common.{option_copied}
use Rattle.swift_ast.specs.declared.tree.Stmt.{Stmt}
use Rattle.type_base.specs.Context.{seen}
use Rattle.type_base.specs.Rules.{FindPart}
use Rattle.stmt_rules.specs.declared.done.Done.{Done}
use Rattle.stmt_rules.specs.Search.{find_stmt_to}
use Rattle.type_stmt.proofs.Forms.{chain_with, chain_without}
use Rattle.type_stmt.proofs.branches.if_chain.Goals as goal

pub returns-in-Some : goal.returns-in-Some
returns-in-Some g c =
    let f : Stmt → FindPart Done = λ s. find_stmt_to c.args.within.now.room s (option_copied c.args.within.now.result) c.args.exits in
    record { found = chain_with f c.args.list.now c.args.last.now c.as_slice.result.now c.in-Some.last (seen c.args.scope.now) c.if_else.result c.args.scope.now c.if_else.new.scope c.in-Some.is c.as_slice.ensures c.if_else.ensures.found }

pub returns-in-None : goal.returns-in-None
returns-in-None g c =
    let f : Stmt → FindPart Done = λ s. find_stmt_to c.args.within.now.room s (option_copied c.args.within.now.result) c.args.exits in
    record { found = chain_without f c.args.list.now c.args.last.now (seen c.args.scope.now) c.if_of.result c.args.scope.now c.if_of.new.scope c.in-None.is c.if_of.ensures.found }
