use Rattle.std.proofs.Common.{rules}
use Rattle.core_uses.proofs.UseRuns.{places_turn, places_end}
use Rattle.core_uses.proofs.uses.use_locals.Goals as goal

pub loop-at-preserved : goal.loop-at-preserved
loop-at-preserved c = places_turn c.args.outer c.args.places.now c.loop-at.at-index c.loop-at.uses c.use_local.new.uses _ (search rules) (search rules) c.loop-at.invariant

pub returns : goal.returns
returns c = record { ok = places_end c.args.outer c.args.places.now c.loop-at.at-index _ _ (search rules) c.loop-at.invariant }
