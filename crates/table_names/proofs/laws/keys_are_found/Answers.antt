use Rattle.table_names.specs.Names.{keys_found}
use Rattle.table_names.proofs.laws.keys_are_found.Goals as goal

pub returns : goal.returns
returns c = record { law = keys_found }
