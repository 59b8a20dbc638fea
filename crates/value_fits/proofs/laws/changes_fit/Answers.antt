use Rattle.value_fits.specs.Changes.{arguments_typed, changes_fit}
use Rattle.value_fits.proofs.laws.changes_fit.Goals as goal

pub returns : goal.returns
returns c = record { arguments = arguments_typed; change = changes_fit }
