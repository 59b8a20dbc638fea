use Rattle.std.proofs.Common.{sym}
use Rattle.std.specs.FinMap.{get-empty}
use Rattle.identity_path.specs.Order.{path_cmp}
use Rattle.expr_eval.proofs.vacant.VacantCells.cells.Goals as goal

pub returns : goal.returns
returns c = sym (get-empty path_cmp c.args._path.now)
