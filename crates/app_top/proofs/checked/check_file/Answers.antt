use Rattle.std.proofs.Common.{refl}
use Rattle.app_top.proofs.Checks.{check_ended}
use Rattle.app_top.proofs.checked.check_file.Goals as goal

pub returns : goal.returns
returns g c = record { ended = λ form. check_ended _ _ c.judge-end.result c.judge-end.ensures.came c.tell.ensures refl }
