use Rattle.meaning_rights.specs.Laws.{terms_have_meanings as proof}
use Rattle.meaning_rights.proofs.laws.terms_have_meanings.Goals as goal

pub returns : goal.returns
returns c = record { law = proof }
