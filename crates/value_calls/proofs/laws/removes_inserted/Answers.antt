use Rattle.value_calls.proofs.LawProofs.{removes_inserted}
use Rattle.value_calls.proofs.laws.removes_inserted.Goals as goal

pub returns : goal.returns
returns c = removes_inserted
