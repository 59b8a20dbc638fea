use Rattle.std.proofs.Common.{◌≡◌, option_copied}
use Rattle.type_base.specs.Context.{seen}
use Rattle.stmt_rules.specs.Search.{find_stmt_to}
use Rattle.type_stmt.proofs.Turns.{ArmsRest}
use Rattle.type_stmt.proofs.branches.arms.Given as goal

abbrev pub invariant-loop-arm : goal.invariant-loop-arm
invariant-loop-arm g l = record {
  same : l.scope ≡ l.fn.scope;
  rest : ArmsRest (λ s. find_stmt_to l.within.room s (option_copied l.within.result) l.exits) l.list (seen l.fn.scope) l.arm-index l.arms;
}
