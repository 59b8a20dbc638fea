use Rattle.std.proofs.Common.{rules}
use Rattle.type_base.proofs.LocalRuns.{at_turn, at_end}
use Rattle.type_base.proofs.local_types.types_at.Goals as goal

pub loop-at-preserved : goal.loop-at-preserved
loop-at-preserved c = at_turn c.args.locals.now c.args.places.now c.loop-at.at-index c.loop-at.types c.push_type.new.types _ (search rules) (search rules) c.loop-at.invariant

pub returns : goal.returns
returns c = record { value = at_end c.args.locals.now c.args.places.now c.loop-at.at-index _ _ (search rules) c.loop-at.invariant }
