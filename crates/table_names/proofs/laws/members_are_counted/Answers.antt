use Rattle.table_names.specs.Codes.{members_counted}
use Rattle.table_names.proofs.laws.members_are_counted.Goals as goal

pub returns : goal.returns
returns c = record { law = members_counted }
