use Rattle.std.specs.Prelude.{option_copied}
use Rattle.type_base.specs.Context.{seen}
use Rattle.type_base.specs.Scopes.{Keeps}
use Rattle.stmt_rules.specs.Search.{find_stmt_to}
use Rattle.type_stmt.proofs.Turns.{StatementsRest}
use Rattle.type_stmt.proofs.blocks.statements.Given as goal

abbrev pub invariant-loop-stmt : goal.invariant-loop-stmt
invariant-loop-stmt g l = record {
  kept : Keeps l.fn.scope l.scope;
  rest : StatementsRest (λ s. find_stmt_to l.within.room s (option_copied l.within.result) l.exits) l.list (seen l.fn.scope) (seen l.scope) l.stmt-index l.body;
}
