use Rattle.table_fits.specs.Fills.{completed_is}
use Rattle.table_fits.proofs.laws.completed_is_a_table.Goals as goal

pub returns : goal.returns
returns c = record { law = completed_is }
