use Rattle.table_names.specs.Codes.{defaults_stand}
use Rattle.table_names.proofs.laws.defaults_stand.Goals as goal

pub returns : goal.returns
returns c = record { law = defaults_stand }
