use Rattle.app_top.proofs.Judging.{why_accepted}
use Rattle.app_top.proofs.source.why_not.Goals as goal

pub returns-clause-accepted : goal.returns-clause-accepted
returns-clause-accepted c = why_accepted c.args.bytes.now c.check.result c.err.result c.check.ensures.verdict c.err.ensures.value
