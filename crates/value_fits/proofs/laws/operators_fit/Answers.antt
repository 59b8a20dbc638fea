use Rattle.value_fits.specs.Operators.{unary_fits, force_fits, property_fits, promoted_fits, binary_fits, element_fits, contains_fits, first_index_fits, repeat_fits, bounds_fit, interpolated_fits}
use Rattle.value_fits.proofs.laws.operators_fit.Goals as goal

pub returns : goal.returns
returns c = record {
  unary = unary_fits;
  force = force_fits;
  property = property_fits;
  promoted = promoted_fits;
  binary = binary_fits;
  element = element_fits;
  contains = contains_fits;
  first_index = first_index_fits;
  repeated = repeat_fits;
  bounds = bounds_fit;
  interpolated = interpolated_fits;
}
