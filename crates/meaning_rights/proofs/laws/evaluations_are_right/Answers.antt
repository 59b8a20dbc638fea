use Rattle.meaning_rights.specs.Laws.{evaluations_are_right as proof}
use Rattle.meaning_rights.proofs.laws.evaluations_are_right.Goals as goal

pub returns : goal.returns
returns c = record { law = proof }
