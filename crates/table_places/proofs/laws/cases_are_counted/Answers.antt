use Rattle.table_places.specs.Places.{cases_counted}
use Rattle.table_places.proofs.laws.cases_are_counted.Goals as goal

pub returns : goal.returns
returns c = record { law = cases_counted }
