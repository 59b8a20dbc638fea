use Rattle.view_rules.specs.Laws as laws
use Rattle.view_rules.proofs.laws.one_scene.Goals as goal

pub returns : goal.returns
returns c = record { law = laws.one_scene }
