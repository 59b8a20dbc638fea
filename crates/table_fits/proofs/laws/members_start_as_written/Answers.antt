use Rattle.table_fits.specs.Starts.{starts_law}
use Rattle.table_fits.proofs.laws.members_start_as_written.Goals as goal

pub returns : goal.returns
returns c = record { law = starts_law }
