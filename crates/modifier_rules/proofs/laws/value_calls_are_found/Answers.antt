use Rattle.modifier_rules.specs.Values as values
use Rattle.modifier_rules.proofs.laws.value_calls_are_found.Goals as goal

pub returns : goal.returns
returns c = record { law = values.value_call_exact }
