use Rattle.value_rules.specs.Values.{infer_exact}
use Rattle.value_rules.proofs.laws.searches_find_values.Goals as goal

pub returns : goal.returns
returns c = record { law = infer_exact }
