use Rattle.table_fits.specs.Fitting.{completed_fits}
use Rattle.table_fits.proofs.laws.completed_tables_fit.Goals as goal

pub returns : goal.returns
returns c = record { law = completed_fits }
