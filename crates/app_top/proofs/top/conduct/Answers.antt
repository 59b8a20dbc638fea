use Rattle.app_top.proofs.Telling.{ended_by}
use Rattle.app_top.proofs.top.conduct.Goals as goal

pub returns-clause-ended : goal.returns-clause-ended
returns-clause-ended g c = ended_by _ c.work-end.result c.work-end.ensures.came c.tell.ensures
