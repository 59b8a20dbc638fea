use Rattle.table_fits.specs.Named.{declarations_named}
use Rattle.table_fits.proofs.laws.declarations_are_named.Goals as goal

pub returns : goal.returns
returns c = record { law = declarations_named }
