use Rattle.std.proofs.Common.{rules}
use Rattle.type_base.proofs.LocalRuns.{from_turn, from_end}
use Rattle.type_base.proofs.local_types.types_from.Goals as goal

pub loop-at-preserved : goal.loop-at-preserved
loop-at-preserved c = from_turn c.args.locals.now c.loop-at.at c.loop-at.types c.push_type.new.types _ (search rules) c.loop-at.invariant

pub returns : goal.returns
returns c = record { value = from_end c.args.locals.now c.loop-at.at _ _ (search rules) c.loop-at.invariant }
