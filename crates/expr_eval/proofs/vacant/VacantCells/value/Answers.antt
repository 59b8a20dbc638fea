use Rattle.expr_eval.proofs.Vacancy.{no_value}
use Rattle.expr_eval.proofs.vacant.VacantCells.value.Goals as goal

pub unreachable-requires : goal.unreachable-requires
unreachable-requires c = no_value c.args._place.now c.requires
