use Rattle.table_names.specs.Names.{members_found}
use Rattle.table_names.proofs.laws.members_are_found.Goals as goal

pub returns : goal.returns
returns c = record { law = members_found }
