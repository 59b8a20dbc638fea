use Rattle.table_names.specs.Sources.{members_written}
use Rattle.table_names.proofs.laws.members_are_written.Goals as goal

pub returns : goal.returns
returns c = record { law = members_written }
