use Rattle.table_places.specs.Preferences.{keys_placed}
use Rattle.table_places.proofs.laws.keys_are_placed.Goals as goal

pub returns : goal.returns
returns c = record { law = keys_placed }
