use Rattle.value_fits.specs.Fields.{programs_stand, data_parts_are, fields_are, field_fits}
use Rattle.value_fits.proofs.laws.fields_fit.Goals as goal

pub returns : goal.returns
returns c = record { programs = programs_stand; parts = data_parts_are; there = fields_are; answer = field_fits }
