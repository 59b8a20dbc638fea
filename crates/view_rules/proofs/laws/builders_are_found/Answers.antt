use Rattle.view_rules.specs.Items as items
use Rattle.view_rules.proofs.laws.builders_are_found.Goals as goal

pub returns : goal.returns
returns c = record { law = items.built_exact }
