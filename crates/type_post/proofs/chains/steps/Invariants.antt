use Rattle.type_base.specs.Context.{seen}
use Rattle.expr_rules.specs.Levels.{infer_to}
use Rattle.type_post.proofs.Turns.{StepsRest}
use Rattle.type_post.proofs.chains.steps.Given as goal

abbrev pub invariant-loop-part : goal.invariant-loop-part
invariant-loop-part g l = StepsRest (infer_to l.fn.inner.room) l.fn.first l.parts (seen l.fn.scope) l.part-index l.so_far
