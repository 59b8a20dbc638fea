use Rattle.table_names.specs.Codes.{codes_stand}
use Rattle.table_names.proofs.laws.codes_stand.Goals as goal

pub returns : goal.returns
returns c = record { law = codes_stand }
