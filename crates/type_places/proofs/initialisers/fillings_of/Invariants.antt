use Rattle.type_base.specs.Context.{seen}
use Rattle.expr_rules.specs.Levels.{infer_to}
use Rattle.post_rules.specs.Chains.{find_binding}
use Rattle.type_places.proofs.Turns.{FillingsRest}
use Rattle.type_places.proofs.initialisers.fillings_of.Given as goal

abbrev pub invariant-loop-member : goal.invariant-loop-member
invariant-loop-member g l = FillingsRest (infer_to l.fn.inner.room) (find_binding (infer_to l.fn.inner.room)) l.members l.fn.arguments (seen l.fn.scope) l.member-index l.rest l.found
