use Rattle.std.proofs.Common.{◌≡◌, option_copied}
use Rattle.type_base.specs.Context.{seen}
use Rattle.stmt_rules.specs.Search.{find_stmt_to}
use Rattle.type_stmt.proofs.Turns.{BodiesRest}
use Rattle.type_stmt.proofs.branches.bodies.Given as goal

abbrev pub invariant-loop-case : goal.invariant-loop-case
invariant-loop-case g l = record {
  same : l.scope ≡ l.fn.scope;
  rest : BodiesRest (λ s. find_stmt_to l.within.room s (option_copied l.within.result) l.exits) l.cases (seen l.fn.scope) l.case-index l.bodies;
}
