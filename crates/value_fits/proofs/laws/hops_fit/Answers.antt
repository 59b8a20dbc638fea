use Rattle.value_fits.specs.Reached.{hops_join, part_fits, read_fits, with_part_fits, renewed_fits}
use Rattle.value_fits.proofs.laws.hops_fit.Goals as goal

pub returns : goal.returns
returns c = record { joined = hops_join; part = part_fits; read = read_fits; with_part = with_part_fits; renewed = renewed_fits }
