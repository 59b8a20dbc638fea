use Rattle.std.proofs.Common.{◌≡◌}
use Rattle.type_base.specs.Context.{seen}
use Rattle.expr_rules.specs.Levels.{infer_to}
use Rattle.type_ops.proofs.Turns.{LinksRest}
use Rattle.type_ops.proofs.operators.links.Given as goal

abbrev pub invariant-loop-link : goal.invariant-loop-link
invariant-loop-link g l = LinksRest (infer_to l.fn.inner.room) l.rest l.fn.first (seen l.fn.scope) l.link-index l.left
