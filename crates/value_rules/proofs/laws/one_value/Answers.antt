use Rattle.value_rules.specs.Values.{one_value}
use Rattle.value_rules.proofs.laws.one_value.Goals as goal

pub returns : goal.returns
returns c = record { law = one_value }
