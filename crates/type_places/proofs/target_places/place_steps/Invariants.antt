use Rattle.type_base.specs.Context.{seen}
use Rattle.expr_rules.specs.Levels.{infer_to}
use Rattle.type_places.proofs.Turns.{PlacesRest}
use Rattle.type_places.proofs.target_places.place_steps.Given as goal

abbrev pub invariant-loop-part : goal.invariant-loop-part
invariant-loop-part g l = PlacesRest (infer_to l.fn.inner.room) l.fn.place l.parts (seen l.fn.scope) l.part-index l.here
