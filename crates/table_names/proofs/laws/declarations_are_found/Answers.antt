use Rattle.table_names.specs.Names.{declarations_found}
use Rattle.table_names.proofs.laws.declarations_are_found.Goals as goal

pub returns : goal.returns
returns c = record { law = declarations_found }
