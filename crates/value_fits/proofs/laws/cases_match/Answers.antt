use Rattle.value_fits.specs.Patterns.{cases_match}
use Rattle.value_fits.proofs.laws.cases_match.Goals as goal

pub returns : goal.returns
returns c = record { law = cases_match }
