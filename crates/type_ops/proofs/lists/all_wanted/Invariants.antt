use Rattle.std.proofs.Common.{◌≡◌}
use Rattle.type_base.specs.Context.{seen}
use Rattle.expr_rules.specs.Levels.{infer_to}
use Rattle.type_ops.proofs.Turns.{WantedRest}
use Rattle.type_ops.proofs.lists.all_wanted.Given as goal

abbrev pub invariant-loop-expr : goal.invariant-loop-expr
invariant-loop-expr g l = WantedRest (infer_to l.fn.inner.room) l.exprs (seen l.fn.scope) l.fn.want l.expr-index l.cores
