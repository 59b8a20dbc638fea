use Rattle.value_fits.specs.Forms.{plain_values_fit, truths_are, indexes_are, optionals_are, lists_are}
use Rattle.value_fits.proofs.laws.values_have_forms.Goals as goal

pub returns : goal.returns
returns c = record { plain = plain_values_fit; truths = truths_are; indexes = indexes_are; optionals = optionals_are; lists = lists_are }
