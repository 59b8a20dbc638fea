use Rattle.table_names.specs.Sources.{keys_written}
use Rattle.table_names.proofs.laws.keys_are_written.Goals as goal

pub returns : goal.returns
returns c = record { law = keys_written }
