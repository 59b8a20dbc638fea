use Rattle.call_reach.proofs.Least.{going_step}
use Rattle.call_reach.proofs.search.reaching.Goals as goal

pub loop-at-preserved : goal.loop-at-preserved
loop-at-preserved c =
    going_step c.args.members.now c.loop-at.marks.items c.visit-in-Some.new.marks.items c.loop-at.work.items c.pop.new.self.items c.visit-in-Some.new.work.items
    c.as_slice.result.now c.callers_at.result.now c.in-Some.at c.loop-at.invariant
    c.in-Some.ensures.items (cc (c.as_slice.ensures, c.in_ok-callers.ensures.value)) c.callers_at.ensures.value c.in_ok-visit-2.ensures.marks c.in_ok-visit-2.ensures.work
