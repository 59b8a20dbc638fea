use Rattle.meaning_rights.specs.Laws.{actions_keep_cells as proof}
use Rattle.meaning_rights.proofs.laws.actions_keep_cells.Goals as goal

pub returns : goal.returns
returns c = record { law = proof }
