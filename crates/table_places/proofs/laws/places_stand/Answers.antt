use Rattle.table_places.specs.Places.{places_stand}
use Rattle.table_places.proofs.laws.places_stand.Goals as goal

pub returns : goal.returns
returns c = record { law = places_stand }
