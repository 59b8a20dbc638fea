use Rattle.value_fits.specs.Cells.{cells_read, cells_written}
use Rattle.value_fits.proofs.laws.cells_fit.Goals as goal

pub returns : goal.returns
returns c = record { read = cells_read; written = cells_written }
