use Rattle.table_places.specs.Apps.{main_is_the_app}
use Rattle.table_places.proofs.laws.main_is_the_app.Goals as goal

pub returns : goal.returns
returns c = record { law = main_is_the_app }
