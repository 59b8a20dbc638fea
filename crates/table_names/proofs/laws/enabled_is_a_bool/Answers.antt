use Rattle.table_names.specs.Codes.{enabled_is_bool}
use Rattle.table_names.proofs.laws.enabled_is_a_bool.Goals as goal

pub returns : goal.returns
returns c = record { law = enabled_is_bool }
