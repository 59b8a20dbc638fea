use Rattle.table_fits.specs.Forms.{forms_stand}
use Rattle.table_fits.proofs.laws.forms_stand.Goals as goal

pub returns : goal.returns
returns c = record { law = forms_stand }
