use Rattle.value_fits.specs.Fields.{struct_made_fits}
use Rattle.value_fits.specs.Lists.{made_fits, list_made_fits}
use Rattle.value_fits.proofs.laws.made_values_fit.Goals as goal

pub returns : goal.returns
returns c = record { value = made_fits; list = list_made_fits; structs = struct_made_fits }
