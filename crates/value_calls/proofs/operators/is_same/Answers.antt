use Rattle.value_calls.proofs.SameLemmas.{same_from}
use Rattle.value_calls.proofs.operators.is_same.Goals as goal

pub returns : goal.returns
returns c = same_from _ _ _ c.same.ensures
