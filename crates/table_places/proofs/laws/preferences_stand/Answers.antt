use Rattle.table_places.specs.Preferences.{preferences_stand}
use Rattle.table_places.proofs.laws.preferences_stand.Goals as goal

pub returns : goal.returns
returns c = record { law = preferences_stand }
