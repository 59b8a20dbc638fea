use Rattle.body_parts.specs.Nests.{of}
use Rattle.body_eval.proofs.Turns.{arms_turn, counted_more}
use Rattle.body_eval.proofs.items.arms.Goals as goal

pub loop-rest-preserved : goal.loop-rest-preserved
loop-rest-preserved g c = record {
  counted = counted_more _ _ _ c.in-len1-up.len_at_least c.loop-rest.invariant.counted;
  whole =
      arms_turn (of c.args.builder.now) _ _ _ _ _ _ _ _ _ _ _
      c.in-len1-up.len_at_least c.first-item.is c.in_ok-taken.ensures.does c.in-None.is c.loop-rest.invariant.whole;
}
