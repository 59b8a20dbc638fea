use Rattle.modifier_rules.specs.Laws as laws
use Rattle.modifier_rules.proofs.laws.one_value_call.Goals as goal

pub returns : goal.returns
returns c = record { law = laws.one_value_call }
