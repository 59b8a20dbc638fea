use Rattle.std.proofs.Common.{rules, ◌≡◌, option_copied}
use Rattle.swift_ast.specs.declared.tree.Stmt.{Stmt}
use Rattle.type_base.specs.Rules.{FindPart}
use Rattle.type_base.specs.Scopes.{pushed}
use Rattle.stmt_rules.specs.declared.done.Done.{Done}
use Rattle.stmt_rules.specs.declared.done.Exits.TheVariants as exit
use Rattle.stmt_rules.specs.Search.{find_stmt_to}
use Rattle.type_stmt.proofs.Turns.{turns_found}
use Rattle.type_stmt.proofs.loops.turns.Goals as goal

pub returns : goal.returns
returns g c =
    let f : Stmt → FindPart Done = λ s. find_stmt_to c.args.within.now.room s (option_copied c.args.within.now.result) exit.Both in
    let there : c.push_local.new.scope ≡ pushed c.enter-mark.new.scope c.args.variable = search rules in
    record { found = turns_found f c.args.list.now c.args.scope.now _ _ _ _ _ _ c.args.variable c.in_ok-body.body c.enter-mark.ensures.entered there c.in_ok-body.ensures.found c.enter-mark.ensures.locals c.enter-mark.ensures.floor c.leave.ensures.left }
